use Rattle.std.proofs.Common.{arith}
use Rattle.mpslp_mps_write.proofs.ColumnLemmas.{bounds-lines}
use Rattle.mpslp_io.proofs.OutputLemmas.{prints_same}
use Rattle.mpslp_mps_write.proofs.mps.bounds.put_bounds.Goals as goal

pub returns : goal.returns
returns = grind (arith, prints_same, bounds-lines)
