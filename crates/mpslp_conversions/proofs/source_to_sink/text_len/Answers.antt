use Rattle.std.proofs.Common.{[], ◌∙◌}
use Rattle.mpslp_conversions.proofs.source_to_sink.text_len.Goals as goal

pub returns : goal.returns
returns g c = c.taken.ensures ∙ c.in-Ok.ensures.answer.1 [] c.new-counter.ensures
