use Rattle.std.{proofs.Common.{◌≡◌, length, nat_eq}, specs.Cmp.Lexicographic.pointwise}
use Rattle.mpslp_model_core.specs.Same.{same_cell}
use Rattle.mpslp_model_core.proofs.columns.are_same_cells.Given as goal

-- the result is that of the remaining items
abbrev pub invariant-loop-cell : goal.invariant-loop-cell
invariant-loop-cell l = record {
  left : pointwise same_cell l.own l.other ≡ pointwise same_cell l.cell-iterator.a.rest.now l.cell-iterator.b.rest.now;
  lengths : nat_eq (length l.own) (length l.other) ≡ nat_eq (length l.cell-iterator.a.rest.now)
      (length l.cell-iterator.b.rest.now);
}
