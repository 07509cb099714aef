use Rattle.mpslp_lp_laws.proofs.DerivedLines.{objectives-derived}
use Rattle.mpslp_lp_laws.proofs.laws.canonical_lp_objective_lines_are_derived.Goals as goal

pub returns : goal.returns
returns c = objectives-derived
