use Rattle.mpslp_lp_write.proofs.Prelude
use Prelude.{◌∙◌, List, ℕ, [], ◌∷◌, ◌++◌, map, slice_get, entries, get_or_from_slice_get, Limit, Row, listing_of, row_names, rows_of, Lines}
use Prelude.{label_line, left_lines, term_line, row_terms, last_line, both_seen, lines_seen, prints_then, prints_same}
use Rattle.mpslp_lp_write.proofs.lp.rows.put_row.Goals as goal

pub returns : goal.returns
returns g c =
    let m = c.args.model.now in
    let lower = c.row_lower-lower.result in
    let upper = c.row_upper-upper.result in
    let stated : List ℕ → Limit × Limit → Lines =
    (λ name limits. label_line name ∷ (left_lines limits.0
    limits.1 ++ (map term_line (row_terms (listing_of m) name) ++ last_line limits.0 limits.1 ∷ []))) in
    let named = get_or_from_slice_get (row_names m) c.args.i _ [] c.row_name_bytes.ensures in
    prints_same ((λ i. label_line c.row_name_bytes.result.now ∷ (left_lines lower
    upper ++ (map term_line (row_terms (listing_of m) (named i)) ++ last_line lower upper ∷ [])))
    ∙ lines_seen (entries m.rows) c.args.i (λ (row : Row). (row.lower, row.upper)) stated _ _ c.row_name_bytes.ensures
    (both_seen (λ (row : Row). row.lower) (λ (row : Row). row.upper) (λ (l : Limit) (u : Limit). (l, u))
    (slice_get (rows_of m) c.args.i) lower upper c.row_lower-lower.ensures c.row_upper-upper.ensures))
    (prints_then c.put_label_line.ensures
    (prints_then c.put_left_limit.ensures (prints_then c.put_row_terms.ensures c.put_last_limit.ensures)))
