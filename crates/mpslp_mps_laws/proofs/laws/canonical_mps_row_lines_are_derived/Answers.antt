use Rattle.mpslp_mps_laws.proofs.WholeWalk.{rows-derived}
use Rattle.mpslp_mps_laws.proofs.laws.canonical_mps_row_lines_are_derived.Goals as goal

pub returns : goal.returns
returns c = rows-derived
