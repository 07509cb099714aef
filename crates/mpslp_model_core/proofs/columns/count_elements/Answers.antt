use Rattle.std.proofs.Common.{arith, ap, length}
use Rattle.mpslp_model_core.proofs.{ByRowLemmas.cells_rise, ColumnLemmas.count_more}
use Rattle.mpslp_model_core.proofs.columns.count_elements.Goals as goal

pub row_cells-requires : goal.row_cells-requires
row_cells-requires c = cells_rise c.args.columns.now c.loop-j.j c.cells_at.result.now c.requires c.cells_at.ensures

pub loop-j-preserved : goal.loop-j-preserved
loop-j-preserved c =
    let more = count_more c.args.columns.now c.loop-j.j c.cells_at.result.now c.cells_at.ensures in
    let len = ap length c.row_cells.ensures in
    let counted = c.loop-j.invariant.counted in
    let few = c.loop-j.invariant.few in
    record { few = omega arith; counted = omega arith }
