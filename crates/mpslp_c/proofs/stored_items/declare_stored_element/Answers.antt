use Rattle.std.{proofs.{Common.{◌≡◌, ◌∙◌, refl, sym, ap, [], ◌∷◌, Ok, Some}, lemmas.Option.slice_get-get_or}, specs.Prelude.slice_get}
use Rattle.mpslp_builder.specs.{Declaration.declare_coefficient, Refusal.refusals}
use Rattle.mpslp_c.{specs.Stored.{declares, element_steps}, proofs.KnownLemmas.{steps_are, call_err, call_then, no_steps, element_taken}}
use Rattle.mpslp_c.proofs.stored_items.declare_stored_element.Goals as goal

pub returns-in_err-coefficient : goal.returns-in_err-coefficient
returns-in_err-coefficient c =
    let all = c.args.names.now in
    let old = c.args.builder.now in
    let element = c.args.element in
    let column = c.args.column.now in
    let found = slice_get c.args.rows.now element.row in
    let value = c.in_ok-value.value in
    let row = c.in-Some.row.now in
    let found_row : slice_get c.args.rows.now element.row
    ≡ Some row = slice_get-get_or c.args.rows.now element.row row c.in-Some.ensures.lookup.3.0
    ∙ ap Some (sym c.in-Some.ensures.lookup.1) in
    let d = declare_coefficient (record { row = c.bytes_at.result.now; column = column }) value in
    let steps : element_steps all column found element ≡ declares d ∷ [] =
    element_taken all column found row element value found_row c.in_ok-value.ensures
    ∙ (λ i. declares (declare_coefficient (record { row = sym c.bytes_at.ensures i; column = column }) value) ∷ []) in
    steps_are (element_steps all column found element) (declares d ∷ []) old _ _ steps
    (call_err (declares d) [] old _ _ (refusals old d) c.in_err-coefficient.field-0.0 _ _ refl
    c.in_err-coefficient.ensures c.from_residual-in_err-coefficient.ensures.1)

pub returns : goal.returns
returns c =
    let all = c.args.names.now in
    let old = c.args.builder.now in
    let new = c.coefficient.new.self in
    let element = c.args.element in
    let column = c.args.column.now in
    let found = slice_get c.args.rows.now element.row in
    let value = c.in_ok-value.value in
    let row = c.in-Some.row.now in
    let found_row : slice_get c.args.rows.now element.row
    ≡ Some row = slice_get-get_or c.args.rows.now element.row row c.in-Some.ensures.lookup.3.0
    ∙ ap Some (sym c.in-Some.ensures.lookup.1) in
    let d = declare_coefficient (record { row = c.bytes_at.result.now; column = column }) value in
    let steps : element_steps all column found element ≡ declares d ∷ [] =
    element_taken all column found row element value found_row c.in_ok-value.ensures
    ∙ (λ i. declares (declare_coefficient (record { row = sym c.bytes_at.ensures i; column = column }) value) ∷ []) in
    steps_are (element_steps all column found element) (declares d ∷ []) old new (Ok tt) steps
    (call_then (declares d) [] old new new (Ok tt) (refusals old d) (new ≡ old) refl c.in_ok-coefficient.ensures (no_steps new))
