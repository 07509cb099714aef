use Rattle.std.proofs.Common.{◌≡◌, ◌≤◌, suc, length}
use Rattle.mpslp_model_core.specs.ByRow.{columns_with}
use Rattle.mpslp_model_core.proofs.by_row.count_columns_with.Given as goal

-- the columns up to this one are counted
abbrev pub invariant-loop-j : goal.invariant-loop-j
invariant-loop-j l = record { few : l.count ≤ l.j; counted : l.count ≡ length (columns_with l.columns (suc l.row) l.j) }
