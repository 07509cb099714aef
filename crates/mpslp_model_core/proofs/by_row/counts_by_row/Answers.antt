use Rattle.std.proofs.Common.{sym, length, arith}
use Rattle.mpslp_model_core.proofs.ByRowLemmas.{noted_none, noted_few, cell_noted, cell_within, column_noted, counted_same, counted_few}
use Rattle.mpslp_model_core.proofs.ByRowLemmas.{counted_more}
use Rattle.mpslp_model_core.proofs.by_row.counts_by_row.Goals as goal

pub count_cell-requires-clause-room : goal.count_cell-requires-clause-room
count_cell-requires-clause-room c =
    let columns = c.args.columns.now in
    let k = c.loop-j.j in
    let m = c.loop-cell.cell-index in
    let within = cell_within columns k c.cells_at-cell-items.result.now m c.cell-item.result
    c.cells_at-cell-items.ensures (omega arith)
    c.cell-item.is c.args.rows c.requires.within in
    let few = c.requires.few in
    let bound = counted_few (length columns) c.loop-cell.invariant (λ i. noted_few columns k m i (omega arith))
    c.cell-item.result.0 within in omega arith

pub loop-cell-init : goal.loop-cell-init
loop-cell-init c = counted_same (λ i. sym (noted_none c.args.columns.now c.loop-j.j i)) c.loop-j.invariant

pub loop-cell-preserved : goal.loop-cell-preserved
loop-cell-preserved c =
    let columns = c.args.columns.now in
    let k = c.loop-j.j in
    let more = cell_noted columns k c.cells_at-cell-items.result.now c.loop-cell.cell-index c.cell-item.result
    c.cells_at-cell-items.ensures (omega arith) c.cell-item.is c.requires.sorted in counted_more
    c.cell-item.result.0 k c.loop-cell.invariant more c.count_cell.ensures.len c.count_cell.ensures.objective
    c.count_cell.ensures.counted

pub loop-j-preserved : goal.loop-j-preserved
loop-j-preserved c = counted_same (column_noted c.args.columns.now c.loop-j.j c.cells_at-cell-items.result.now
    c.loop-cell.cell-index c.cells_at-cell-items.ensures (omega arith)) c.loop-cell.invariant
