use Rattle.std.proofs.Common.{◌∙◌}
use Rattle.mpslp_model_core.proofs.ViewLemmas.{count_columns}
use Rattle.mpslp_model_core.proofs.model.Model.num_cols.Goals as goal

pub returns : goal.returns
returns c = c.len.ensures ∙ count_columns c.self.view_is c.self.invariant.parts
