use Rattle.mpslp_lp_write.proofs.Prelude
use Prelude.{◌≡◌, sym, ◌∙◌, [], ◌∷◌, arith, entries, get_or_from_slice_get, is_zero, column_name, column_names, coefficient_at, listing_of}
use Prelude.{term_line, named-lines, prints_same, prints_nothing}
use Rattle.mpslp_lp_write.proofs.LpTerms.{objective_lines_of, objective-needed, objective-only, objective-left}
use Rattle.mpslp_lp_write.proofs.lp.objective.put_objective_term.Goals.{else-is_zero-via-then-is_zero+else-column_len-gt0}
use Rattle.mpslp_lp_write.proofs.lp.objective.put_objective_term.Goals.{else-is_zero-via-else-is_zero}
use Rattle.mpslp_lp_write.proofs.lp.objective.put_objective_term.Goals as goal

pub returns-then-column_len-gt0 : goal.returns-then-column_len-gt0
returns-then-column_len-gt0 g c =
    let m = c.args.model.now in
    let some = c.if-column_len-gt0.true in
    let count = c.column_len.ensures in
    let stated : c.is_zero.result ≡ is_zero (coefficient_at m m.objective (column_name m c.args.j)) =
    c.is_zero.ensures ∙ (λ i. is_zero (c.objective_coefficient-value.ensures i)) in
    let zero = sym stated ∙ c.if-is_zero.true in
    prints_same (objective-left m c.each_model_is_sound.ensures (column_name m c.args.j) zero (omega arith)
    ∙ named-lines (objective_lines_of (listing_of m)) (entries m.columns) c.args.j c.requires)
    (prints_nothing c.args.output.now)

pub returns : goal.returns
returns g c =
    let m = c.args.model.now in
    let name = column_name m c.args.j in
    let sound = c.each_model_is_sound.ensures in
    let column : c.as_bytes.result.now ≡ name =
    c.as_bytes.ensures ∙ sym (get_or_from_slice_get (column_names m) c.args.j _ [] c.column_name.ensures) in
    let stated : c.is_zero.result ≡ is_zero (coefficient_at m m.objective name) =
    c.is_zero.ensures ∙ (λ i. is_zero (c.objective_coefficient-value.ensures i)) in
    let line : term_line (name, coefficient_at m m.objective name) ∷ [] ≡ objective_lines_of (listing_of m) name =
    elim c.else-is_zero.branch [
      | else-is_zero-via-then-is_zero+else-column_len-gt0 w ↦ let few = w.if-column_len-gt0.false in
          let count = w.column_len.ensures in objective-only m sound name (omega arith)
      | else-is_zero-via-else-is_zero w ↦ objective-needed m sound name (sym stated ∙ w.if-is_zero.false)
    ] in
    prints_same ((λ i. term_line (column i, c.objective_coefficient-value.ensures i) ∷ []) ∙ line
    ∙ named-lines (objective_lines_of (listing_of m)) (entries m.columns) c.args.j c.requires) c.put_term_line.ensures
