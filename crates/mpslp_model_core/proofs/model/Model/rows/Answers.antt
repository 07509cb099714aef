use Rattle.std.proofs.Common.{sym, ◌∙◌}
use Rattle.mpslp_model_core.proofs.ViewLemmas.{rows_seen}
use Rattle.mpslp_model_core.proofs.model.Model.rows.Goals as goal

pub returns : goal.returns
returns c = c.of.ensures ∙ c.deref.ensures.value ∙ sym (rows_seen c.self.view_is c.self.invariant.parts)
