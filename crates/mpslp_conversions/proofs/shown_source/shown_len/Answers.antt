use Rattle.std.proofs.Common.{[], ◌∙◌}
use Rattle.mpslp_conversions.proofs.shown_source.shown_len.Goals as goal

pub returns : goal.returns
returns c = c.taken.ensures ∙ c.in-Ok.ensures.answer.1 [] c.new-counter.ensures
