use Rattle.mpslp_lp_write.proofs.Prelude
use Prelude.{◌∙◌, List, ℕ, slice_get, entries, Limit, Column, columns_of, Lines, bound_lexemes, line_of_some, both_seen, lines_seen}
use Prelude.{prints_same}
use Rattle.mpslp_lp_write.proofs.lp.bounds.put_bounds.Goals as goal

pub returns : goal.returns
returns g c =
    let m = c.args.model.now in
    let lower = c.col_lower-lower.result in
    let upper = c.col_upper-upper.result in
    let stated : List ℕ → Limit × Limit → Lines = (λ name bounds. line_of_some (bound_lexemes name bounds.0 bounds.1)) in
    prints_same ((λ i. line_of_some (bound_lexemes (c.as_bytes-column.ensures i) lower upper))
    ∙ lines_seen (entries m.columns) c.args.j (λ (column : Column). (column.lower, column.upper)) stated _ _ c.column_name.ensures
    (both_seen (λ (column : Column). column.lower) (λ (column : Column). column.upper)
    (λ (l : Limit) (u : Limit). (l, u)) (slice_get (columns_of m) c.args.j) lower upper c.col_lower-lower.ensures
    c.col_upper-upper.ensures)) c.put_bounds_of.ensures
