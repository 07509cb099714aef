use Rattle.mpslp_mps_laws.proofs.WholeWalk.{ranges-derived}
use Rattle.mpslp_mps_laws.proofs.laws.canonical_mps_range_lines_are_derived.Goals as goal

pub returns : goal.returns
returns c = ranges-derived
