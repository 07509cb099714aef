use Rattle.mpslp_lp_write.proofs.Prelude
use Prelude.{sym, ap, ◌∙◌, ◌++◌, ◌∷◌, [], arith, filter_map, row_name, listing_of, term_in, term_line, has_lines, prints_then, prints_same}
use Rattle.mpslp_lp_write.proofs.LpTerms.{terms-listed, some-listed, none-listed, terms-joined, some-terms, no-terms}
use Rattle.mpslp_lp_write.proofs.lp.rows.put_row_terms.Goals as goal

pub column_name-requires : goal.column_name-requires
column_name-requires g c = c.each_model_is_sound.ensures.has_column

pub returns-then-row_len-eq0 : goal.returns-then-row_len-eq0
returns-then-row_len-eq0 g c =
    let model = c.args.model.now in
    let row = row_name model c.args.i in
    let m = listing_of model in
    let find_term = term_in m row in
    let joined = terms-listed model row ∙ terms-joined find_term m.columns in
    let none = sym (ap has_lines joined) ∙ none-listed model row (omega arith) in
    prints_same ((λ i. joined i ++ term_line (c.as_bytes-first.ensures i, c.zero.ensures i) ∷ [])
    ∙ no-terms m.columns (filter_map find_term m.columns) _ c.column_name.ensures none)
    (prints_then c.put_terms.ensures c.put_term_line.ensures)

pub returns-else-row_len-eq0 : goal.returns-else-row_len-eq0
returns-else-row_len-eq0 g c =
    let model = c.args.model.now in
    let row = row_name model c.args.i in
    let m = listing_of model in
    let find_term = term_in m row in
    let joined = terms-listed model row ∙ terms-joined find_term m.columns in
    let some = sym (ap has_lines joined) ∙ some-listed model row (omega arith) in
    prints_same (joined ∙ some-terms m.columns (filter_map find_term m.columns) some) c.put_terms.ensures
