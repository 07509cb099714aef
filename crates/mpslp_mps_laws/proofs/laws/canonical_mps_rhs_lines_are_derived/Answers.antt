use Rattle.mpslp_mps_laws.proofs.WholeWalk.{rhs-derived}
use Rattle.mpslp_mps_laws.proofs.laws.canonical_mps_rhs_lines_are_derived.Goals as goal

pub returns : goal.returns
returns c = rhs-derived
