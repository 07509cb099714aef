use Rattle.std.proofs.Common.{sym, ◌∙◌}
use Rattle.mpslp_model_core.proofs.ViewLemmas.{columns_seen}
use Rattle.mpslp_model_core.proofs.model.Model.columns.Goals as goal

pub returns : goal.returns
returns c = c.iter.ensures ∙ sym (columns_seen c.self.view_is c.self.invariant.parts)
