use Rattle.std.proofs.Common.{◌≡◌, refl, [], ◌∷◌, Ok}
use Rattle.mpslp_builder.specs.{Declaration.{declare_row, by_limits}, Refusal.refusals}
use Rattle.mpslp_c.{specs.Stored.{declares, row_steps}, proofs.KnownLemmas.{steps_are, call_err, call_then, no_steps, row_taken}}
use Rattle.mpslp_c.proofs.stored_items.declare_stored_row.Goals as goal

pub returns-in_err-row_limits : goal.returns-in_err-row_limits
returns-in_err-row_limits c =
    let all = c.args.names.now in
    let old = c.args.builder.now in
    let lower = c.in_ok-lower.lower in
    let upper = c.in_ok-upper.upper in
    let new_name = c.in_ok-new.field-0 in
    let d = declare_row new_name (by_limits lower upper) in
    let steps = row_taken all c.args.row c.in_ok-name.name.now new_name lower upper c.in_ok-name.ensures
    c.in_ok-lower.ensures.limit c.in_ok-upper.ensures.limit c.in_ok-new.ensures.taken in
    steps_are (row_steps all c.args.row) (declares d ∷ []) old _ _ steps (call_err (declares d) [] old _ _ (refusals old d)
    c.in_err-row_limits.field-0.0 _ _ refl c.in_err-row_limits.ensures c.from_residual-in_err-row_limits.ensures.1)

pub returns : goal.returns
returns c =
    let all = c.args.names.now in
    let old = c.args.builder.now in
    let new = c.row_limits.new.self in
    let lower = c.in_ok-lower.lower in
    let upper = c.in_ok-upper.upper in
    let new_name = c.in_ok-new.field-0 in
    let d = declare_row new_name (by_limits lower upper) in
    let steps = row_taken all c.args.row c.in_ok-name.name.now new_name lower upper c.in_ok-name.ensures
    c.in_ok-lower.ensures.limit c.in_ok-upper.ensures.limit c.in_ok-new.ensures.taken in
    steps_are (row_steps all c.args.row) (declares d ∷ []) old new (Ok tt) steps
    (call_then (declares d) [] old new new (Ok tt) (refusals old d) (new ≡ old) refl
    c.in_ok-row_limits.ensures (no_steps new))
