use Rattle.mpslp_mps_laws.proofs.WholeWalk.{bounds-derived}
use Rattle.mpslp_mps_laws.proofs.laws.canonical_mps_bound_lines_are_derived.Goals as goal

pub returns : goal.returns
returns c = bounds-derived
