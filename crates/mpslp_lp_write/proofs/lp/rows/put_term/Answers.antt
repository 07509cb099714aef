use Rattle.mpslp_lp_write.proofs.Prelude
use Prelude.{◌≡◌, sym, ap, ◌∙◌, ℕ, [], ◌∷◌, Option, option_map_or, get_or_from_slice_get, row_name, column_name, column_names, term_line}
use Prelude.{numbered_term_lines, prints_same}
use Rattle.mpslp_lp_write.proofs.LpTerms.{term-listed}
use Rattle.mpslp_lp_write.proofs.lp.rows.put_term.Goals as goal

pub returns : goal.returns
returns g c =
    let m = c.args.model.now in
    let row = row_name m c.args.i in
    let j = c.args.term.0 in
    let column : c.args.name.now ≡ column_name m j = sym (get_or_from_slice_get (column_names m) j _ [] c.requires.name) in
    prints_same ((λ i. term_line (column i, c.requires.term.value i) ∷ []) ∙ term-listed m row c.args.k j c.requires.term.column
    ∙ ap (λ (o : Option ℕ). option_map_or (numbered_term_lines m row) o []) (sym c.requires.term.column))
    c.put_term_line.ensures
