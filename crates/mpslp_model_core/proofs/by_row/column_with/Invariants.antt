use Rattle.std.proofs.Common.{◌≡◌, ◌+◌, suc, length}
use Rattle.mpslp_model_core.specs.ByRow.{columns_with}
use Rattle.mpslp_model_core.proofs.by_row.column_with.Given as goal

-- so many columns come before, and so many are left
abbrev pub invariant-loop-j : goal.invariant-loop-j
invariant-loop-j l = l.k ≡ length (columns_with l.columns (suc l.row) l.j) + l.left
