use Rattle.std.{proofs.Common.{◌≡◌, drop}, specs.Cmp.Lexicographic.pointwise}
use Rattle.mpslp_model_core.specs.{Same.same_named_column, Columned.column_entries}
use Rattle.mpslp_model_core.proofs.columns.same_columns.Given as goal

-- the result is that of the remaining columns
abbrev pub invariant-loop-j : goal.invariant-loop-j
invariant-loop-j l = pointwise same_named_column (column_entries l.own) (column_entries l.other)
    ≡ pointwise same_named_column (column_entries (drop l.j l.own)) (column_entries (drop l.j l.other))
