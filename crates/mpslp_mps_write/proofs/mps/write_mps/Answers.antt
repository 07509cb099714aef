use Rattle.std.proofs.Common.{arith}
use Rattle.mpslp_mps_write.proofs.mps.write_mps.Goals as goal

pub returns : goal.returns
returns = grind arith
