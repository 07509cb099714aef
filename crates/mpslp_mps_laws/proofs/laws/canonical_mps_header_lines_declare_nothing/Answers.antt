use Rattle.mpslp_mps_laws.proofs.WholeWalk.{headers-derived}
use Rattle.mpslp_mps_laws.proofs.laws.canonical_mps_header_lines_declare_nothing.Goals as goal

pub returns : goal.returns
returns c = headers-derived
