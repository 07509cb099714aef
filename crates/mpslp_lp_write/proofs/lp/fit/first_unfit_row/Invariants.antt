use Rattle.mpslp_lp_write.proofs.Prelude
use Prelude.{◌≤◌, position_or_len, row_names, is_no_lp_name}
use Rattle.mpslp_lp_write.proofs.lp.fit.first_unfit_row.Given as goal

-- the names so far are LP names
abbrev pub invariant-loop-i : goal.invariant-loop-i
invariant-loop-i l = l.i ≤ position_or_len is_no_lp_name (row_names l.model)
