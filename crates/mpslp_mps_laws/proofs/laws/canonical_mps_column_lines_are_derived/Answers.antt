use Rattle.mpslp_mps_laws.proofs.WholeWalk.{columns-derived}
use Rattle.mpslp_mps_laws.proofs.laws.canonical_mps_column_lines_are_derived.Goals as goal

pub returns : goal.returns
returns c = columns-derived
