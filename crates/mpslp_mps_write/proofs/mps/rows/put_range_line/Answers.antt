use Rattle.std.{proofs.Common.{rules, sym}, specs.FinMap.{entries}}
use Rattle.mpslp_mps_write.proofs.RowLines.{range-put, range-left}
use Rattle.mpslp_io.proofs.OutputLemmas.{prints_same, prints_nothing}
use Rattle.mpslp_mps_write.proofs.mps.rows.put_range_line.Goals as goal

pub returns-then-not-is_zero : goal.returns-then-not-is_zero
returns-then-not-is_zero g c =
    prints_same (range-put (entries c.args.model.now.rows) c.args.i _ _ c.row_name_bytes.ensures c.row_range-range.ensures
    (sym c.if-not-is_zero.ensures))
    c.put_value_line.ensures

pub returns-else-not-is_zero : goal.returns-else-not-is_zero
returns-else-not-is_zero = search (rules, prints_same, range-left, prints_nothing)
