use Rattle.std.proofs.Common.{◌≡◌, refl, sym, ap, suc, ◌+◌, length, arith}
use Rattle.mpslp_model_core.specs.ByRow.{columns_with}
use Rattle.mpslp_model_core.proofs.ByRowLemmas.{noted, noted_none, noted_fits, cell_noted, cell_within, cell_placed, cell_index}
use Rattle.mpslp_model_core.proofs.ByRowLemmas.{listed_same, column_noted, put_same, put_none, put_fits, put_more, lists_from_put}
use Rattle.mpslp_model_core.proofs.by_row.elements_by_row.Goals as goal

pub loop-number-init : goal.loop-number-init
loop-number-init c =
    let total = c.in_ok-total.ensures.total in
    let len = c.in_ok-list.ensures.len in
    put_none c.args.columns.now c.args.rows c.in_ok-starts.starts.items c.starts_of.new.counts.items c.in_ok-list.list.items
    c.in_ok-starts.ensures c.starts_of.ensures.len c.in_ok-total.ensures.starts (omega arith)

pub put_cell-requires-clause-row : goal.put_cell-requires-clause-row
put_cell-requires-clause-row c = let within = cell_within c.args.columns.now c.loop-number.number c.cells_at-cell-items.result.now
    c.loop-place.place c.cell-item.result c.cells_at-cell-items.ensures
    (omega arith) c.cell-item.is c.args.rows c.requires.within in
    let len = c.loop-place.invariant.len in omega arith

pub put_cell-requires-clause-room : goal.put_cell-requires-clause-room
put_cell-requires-clause-room c =
    let columns = c.args.columns.now in
    let k = c.loop-number.number in
    let m = c.loop-place.place in
    let within = cell_within columns k c.cells_at-cell-items.result.now m c.cell-item.result
    c.cells_at-cell-items.ensures (omega arith) c.cell-item.is c.args.rows c.requires.within in
    let more = cell_noted columns k c.cells_at-cell-items.result.now m c.cell-item.result c.cells_at-cell-items.ensures
    (omega arith) c.cell-item.is c.requires.sorted in
    put_fits c.cell-item.result.0 k c.loop-place.invariant within more (λ i. noted_fits columns k (m + 1) i (omega arith))

pub loop-place-init : goal.loop-place-init
loop-place-init c = put_same (λ i. sym (noted_none c.args.columns.now c.loop-number.number i)) c.loop-number.invariant

pub put_cell-requires-clause-place : goal.put_cell-requires-clause-place
put_cell-requires-clause-place c = cell_index c.args.columns.now c.loop-number.number c.cells_at-cell-items.result.now
    c.loop-place.place c.cell-item.result c.cells_at-cell-items.ensures (omega arith) c.cell-item.is c.requires.sorted

pub loop-place-preserved : goal.loop-place-preserved
loop-place-preserved c =
    let columns = c.args.columns.now in
    let k = c.loop-number.number in
    let m = c.loop-place.place in
    let within = cell_within columns k c.cells_at-cell-items.result.now m c.cell-item.result
    c.cells_at-cell-items.ensures (omega arith) c.cell-item.is c.args.rows c.requires.within in
    let more = cell_noted columns k c.cells_at-cell-items.result.now m c.cell-item.result c.cells_at-cell-items.ensures
    (omega arith) c.cell-item.is c.requires.sorted in
    let placed = cell_placed columns k c.cells_at-cell-items.result.now m c.cell-item.result
    c.cells_at-cell-items.ensures (omega arith) c.cell-item.is in put_more columns c.args.rows
    (λ i. noted columns k m i) (λ i. noted columns k (m + 1) i) c.loop-place.starts.items c.loop-place.list.items
    c.put_cell.new.ends.items c.put_cell.new.list.items c.cell-item.result.0 k c.loop-place.invariant within more
    (λ i. noted_fits columns k (m + 1) i (omega arith))
    (λ some d. listed_same columns c.cell-item.result.0 refl (sym (c.put_cell.ensures.put some d))
    (refl, placed)) c.put_cell.ensures.kept c.put_cell.ensures.ends_len c.put_cell.ensures.list_len
    c.put_cell.ensures.objective c.put_cell.ensures.counted

pub loop-number-preserved : goal.loop-number-preserved
loop-number-preserved c = put_same (column_noted c.args.columns.now c.loop-number.number c.cells_at-cell-items.result.now
    c.loop-place.place c.cells_at-cell-items.ensures (omega arith)) c.loop-place.invariant

pub returns : goal.returns
returns c = let all : c.loop-number.number ≡ length c.args.columns.now = omega arith in
    lists_from_put c.args.columns.now c.args.rows (record { starts = c.loop-number.starts; elements = c.loop-number.list })
    (put_same (λ i. ap (columns_with c.args.columns.now (suc i)) all) c.loop-number.invariant)
