use Rattle.std.proofs.{Common.{arith}, lemmas.Option.{get_or_from_slice_get}}
use Rattle.mpslp_mps_write.proofs.ColumnLemmas.{cell-needed, cell-only}
use Rattle.mpslp_io.proofs.OutputLemmas.{prints_same}
use Rattle.mpslp_mps_write.proofs.mps.columns.put_objective_coefficient.Goals as goal

pub returns : goal.returns
returns = grind (arith, get_or_from_slice_get, cell-only, cell-needed, prints_same)
