use Rattle.std.proofs.Common.{◌≡◌, refl, ◌∷◌, Some}
use Rattle.mpslp_builder.specs.{Declaration.{declare_column, declare_coefficient}, Refusal.{refusals, bounds_refusals}}
use Rattle.mpslp_c.specs.Stored.{declares, bounds, column_steps, kind_steps}
use Rattle.mpslp_c.proofs.KnownLemmas.{steps_are, call_err, call_then, column_taken}
use Rattle.mpslp_c.proofs.stored_items.declare_stored_column.Goals as goal

pub returns-in_err-column : goal.returns-in_err-column
returns-in_err-column c =
    let all = c.args.names.now in
    let objective = c.args.objective.now in
    let column = c.args.column in
    let old = c.args.builder.now in
    let name = c.in_ok-name.name.now in
    let lower = c.in_ok-lower.lower in
    let upper = c.in_ok-upper.upper in
    let cost = c.in_ok-cost.cost in
    let new_name = c.in_ok-new.field-0 in
    let d = declare_column new_name in
    let more = bounds name lower upper ∷ declares (declare_coefficient (record { row = objective; column = name }) cost)
    ∷ kind_steps name column.kind in
    let steps = column_taken all objective column name new_name lower upper cost c.in_ok-name.ensures
    c.in_ok-lower.ensures.limit c.in_ok-upper.ensures.limit c.in_ok-cost.ensures c.in_ok-new.ensures.taken in
    steps_are (column_steps all objective column) (declares d ∷ more) old _ _ steps
    (call_err (declares d) more old _ _ (refusals old d) c.in_err-column.field-0.0 (old ≡ old) _ refl
    c.in_err-column.ensures c.from_residual-in_err-column.ensures.1)

pub returns-in_err-bounds : goal.returns-in_err-bounds
returns-in_err-bounds c =
    let all = c.args.names.now in
    let objective = c.args.objective.now in
    let column = c.args.column in
    let old = c.args.builder.now in
    let one = c.column.new.self in
    let name = c.in_ok-name.name.now in
    let lower = c.in_ok-lower.lower in
    let upper = c.in_ok-upper.upper in
    let cost = c.in_ok-cost.cost in
    let new_name = c.in_ok-new.field-0 in
    let more = declares (declare_coefficient (record { row = objective; column = name }) cost) ∷ kind_steps name column.kind in
    let steps = column_taken all objective column name new_name lower upper cost c.in_ok-name.ensures c.in_ok-lower.ensures.limit
    c.in_ok-upper.ensures.limit c.in_ok-cost.ensures c.in_ok-new.ensures.taken in
    steps_are (column_steps all objective column) (declares (declare_column new_name) ∷ bounds name lower upper ∷ more)
    old _ _ steps (call_then (declares (declare_column new_name)) (bounds name lower upper ∷ more) old one _ _
    (refusals old (declare_column new_name)) (one ≡ old) refl c.in_ok-column.ensures
    (call_err (bounds name lower upper) more one _ _ (bounds_refusals one name (Some lower)
    (Some upper)) c.in_err-bounds.field-0.0 _ _ refl c.in_err-bounds.ensures c.from_residual-in_err-bounds.ensures.1))

pub returns-in_err-coefficient : goal.returns-in_err-coefficient
returns-in_err-coefficient c =
    let all = c.args.names.now in
    let objective = c.args.objective.now in
    let column = c.args.column in
    let old = c.args.builder.now in
    let one = c.column.new.self in
    let two = c.bounds.new.self in
    let name = c.in_ok-name.name.now in
    let lower = c.in_ok-lower.lower in
    let upper = c.in_ok-upper.upper in
    let cost = c.in_ok-cost.cost in
    let new_name = c.in_ok-new.field-0 in
    let d = declare_coefficient (record { row = objective; column = name }) cost in
    let more = declares d ∷ kind_steps name column.kind in
    let steps = column_taken all objective column name new_name lower upper cost
    c.in_ok-name.ensures c.in_ok-lower.ensures.limit c.in_ok-upper.ensures.limit c.in_ok-cost.ensures c.in_ok-new.ensures.taken in
    steps_are (column_steps all objective column) (declares (declare_column new_name) ∷ bounds name lower upper ∷ more)
    old _ _ steps (call_then (declares (declare_column new_name)) (bounds name lower upper ∷ more) old one _ _
    (refusals old (declare_column new_name)) (one ≡ old) refl c.in_ok-column.ensures
    (call_then (bounds name lower upper) more one two _ _ (bounds_refusals one name (Some lower)
    (Some upper)) (two ≡ one) refl c.in_ok-bounds.ensures
    (call_err (declares d) (kind_steps name column.kind) two _ _ (refusals two d) c.in_err-coefficient.field-0.0 _ _
    refl c.in_err-coefficient.ensures c.from_residual-in_err-coefficient.ensures.1)))

pub returns : goal.returns
returns c =
    let all = c.args.names.now in
    let objective = c.args.objective.now in
    let column = c.args.column in
    let old = c.args.builder.now in
    let one = c.column.new.self in
    let two = c.bounds.new.self in
    let three = c.coefficient.new.self in
    let name = c.in_ok-name.name.now in
    let lower = c.in_ok-lower.lower in
    let upper = c.in_ok-upper.upper in
    let cost = c.in_ok-cost.cost in
    let new_name = c.in_ok-new.field-0 in
    let d = declare_coefficient (record { row = objective; column = name }) cost in
    let more = declares d ∷ kind_steps name column.kind in
    let steps = column_taken all objective column name new_name lower upper cost
    c.in_ok-name.ensures c.in_ok-lower.ensures.limit c.in_ok-upper.ensures.limit c.in_ok-cost.ensures c.in_ok-new.ensures.taken in
    steps_are (column_steps all objective column) (declares (declare_column new_name) ∷ bounds name lower upper ∷ more)
    old _ _ steps (call_then (declares (declare_column new_name)) (bounds name lower upper ∷ more) old one _ _
    (refusals old (declare_column new_name)) (one ≡ old) refl c.in_ok-column.ensures
    (call_then (bounds name lower upper) more one two _ _
    (bounds_refusals one name (Some lower) (Some upper)) (two ≡ one) refl c.in_ok-bounds.ensures
    (call_then (declares d) (kind_steps name column.kind) two three _ _ (refusals two d)
    (three ≡ two) refl c.in_ok-coefficient.ensures c.declare_kind.ensures)))
