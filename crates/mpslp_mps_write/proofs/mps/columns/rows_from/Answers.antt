use Rattle.std.proofs.Common.{arith}
use Rattle.mpslp_mps_write.proofs.mps.columns.rows_from.Goals as goal

pub returns : goal.returns
returns = grind arith
