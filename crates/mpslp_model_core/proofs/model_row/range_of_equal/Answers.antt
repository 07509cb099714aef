use Rattle.std.proofs.Common.{◌∙◌}
use Rattle.mpslp_model_core.proofs.PlainRowLemmas.{range_same}
use Rattle.mpslp_model_core.proofs.model_row.range_of_equal.Goals as goal

pub returns : goal.returns
returns c = c.zero.ensures ∙ range_same c.before.args.value.now
