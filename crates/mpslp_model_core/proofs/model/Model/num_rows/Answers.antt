use Rattle.std.proofs.Common.{ap, ◌∙◌, length}
use Rattle.mpslp_model_core.proofs.ViewLemmas.{rows_seen, count_seen}
use Rattle.mpslp_model_core.proofs.model.Model.num_rows.Goals as goal

pub returns : goal.returns
returns c = ap length c.as_slice.ensures.value ∙ count_seen (rows_seen c.self.view_is c.self.invariant.parts)
