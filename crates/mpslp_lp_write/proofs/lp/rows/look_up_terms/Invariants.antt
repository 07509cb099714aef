use Rattle.mpslp_lp_write.proofs.Prelude
use Prelude.{◌≡◌, ◌+◌, ◌<◌, ℕ, length, slice_index_or, Number, row_name, row_columns, IsTerm}
use Rattle.mpslp_lp_write.proofs.lp.rows.look_up_terms.Given as goal

-- the terms so far are known
abbrev pub invariant-loop-n : goal.invariant-loop-n
invariant-loop-n l = record {
  len : length l.terms ≡ 8;
  known : (m : ℕ) (default : ℕ × Number) → m < l.n → l.from + m < length (row_columns l.model (row_name l.model l.i)) →
      IsTerm l.model l.i (l.from + m) (slice_index_or l.terms m default);
}
