use Rattle.std.proofs.Common.{◌≡◌, ◌+◌, ◌*◌, ◌≤◌, drop}
use Rattle.mpslp_model_core.specs.Columned.{count_row_cells}
use Rattle.mpslp_model_core.proofs.columns.count_elements.Given as goal

-- the count so far and the remaining nonzeros give the result
abbrev pub invariant-loop-j : goal.invariant-loop-j
invariant-loop-j l = record {
  few : l.count ≤ l.j * 18446744073709551615;
  counted : l.count + count_row_cells (drop l.j l.columns) ≡ count_row_cells l.columns;
}
