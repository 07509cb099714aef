use Rattle.mpslp_lp_write.proofs.Prelude
use Prelude.{◌≤◌, position_or_len, column_names, is_no_lp_name}
use Rattle.mpslp_lp_write.proofs.lp.fit.first_unfit_column.Given as goal

-- the names so far are LP names
abbrev pub invariant-loop-j : goal.invariant-loop-j
invariant-loop-j l = l.j ≤ position_or_len is_no_lp_name (column_names l.model)
