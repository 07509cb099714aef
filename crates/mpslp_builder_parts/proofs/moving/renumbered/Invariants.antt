use Rattle.std.proofs.Common.{drop, map, slice_index, take, ◌++◌, ◌≡◌}
use Rattle.mpslp_builder_parts.proofs.moving.renumbered.Given as goal

abbrev pub invariant-loop-cell : goal.invariant-loop-cell
invariant-loop-cell l = l.cell-items ≡ map (λ cell. (slice_index l.ranks cell.0, cell.1)) (take l.cell-index l.fn.cells.items)
    ++ drop l.cell-index l.fn.cells.items
