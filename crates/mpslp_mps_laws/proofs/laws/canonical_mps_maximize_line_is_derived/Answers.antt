use Rattle.mpslp_mps_laws.proofs.WholeWalk.{sense-derived}
use Rattle.mpslp_mps_laws.proofs.laws.canonical_mps_maximize_line_is_derived.Goals as goal

pub returns : goal.returns
returns c = sense-derived
