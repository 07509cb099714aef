use Rattle.std.proofs.Common.{arith}
use Rattle.mpslp_mps_write.proofs.mps.rows.rhs_at.Goals as goal

pub returns-in-Finite : goal.returns-in-Finite
returns-in-Finite = grind arith

pub returns-in_default : goal.returns-in_default
returns-in_default = grind arith
