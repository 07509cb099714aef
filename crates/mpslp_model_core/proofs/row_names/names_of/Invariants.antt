use Rattle.mpslp_model_core.proofs.ViewLemmas.{AreNamed}
use Rattle.mpslp_model_core.proofs.row_names.names_of.Given as goal

-- the names of the rows up to this one are put
abbrev pub invariant-loop-row : goal.invariant-loop-row
invariant-loop-row l = AreNamed l.rows l.row-index l.text.items l.starts.items
