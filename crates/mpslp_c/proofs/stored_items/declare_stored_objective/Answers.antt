use Rattle.std.proofs.Common.{◌≡◌, refl, ◌∷◌}
use Rattle.mpslp_builder.specs.{Declaration.{declare_objective, declare_constant}, Refusal.refusals}
use Rattle.mpslp_c.specs.Stored.{declares, objective_steps, sense_steps}
use Rattle.mpslp_c.proofs.KnownLemmas.{steps_are, call_err, call_then, objective_taken}
use Rattle.mpslp_c.proofs.stored_items.declare_stored_objective.Goals as goal

pub returns-in_err-objective : goal.returns-in_err-objective
returns-in_err-objective c =
    let arrays = c.args.model.now in
    let old = c.args.builder.now in
    let constant = c.in_ok-constant.constant in
    let new_name = c.in_ok-new.field-0 in
    let d = declare_objective new_name in
    let more = declares (declare_constant constant) ∷ sense_steps arrays.sense in
    let steps = objective_taken arrays c.in_ok-name.name.now new_name constant c.in_ok-name.ensures
    c.in_ok-constant.ensures c.in_ok-new.ensures.taken in
    steps_are (objective_steps arrays) (declares d ∷ more) old _ _ steps (call_err (declares d) more old _ _ (refusals old d)
    c.in_err-objective.field-0.0 _ _ refl c.in_err-objective.ensures.answers c.from_residual-in_err-objective.ensures.1)

pub returns-in_err-constant-2 : goal.returns-in_err-constant-2
returns-in_err-constant-2 c =
    let arrays = c.args.model.now in
    let old = c.args.builder.now in
    let one = c.objective.new.self in
    let constant = c.in_ok-constant.constant in
    let new_name = c.in_ok-new.field-0 in
    let d = declare_objective new_name in
    let e = declare_constant constant in
    let steps = objective_taken arrays c.in_ok-name.name.now new_name constant c.in_ok-name.ensures
    c.in_ok-constant.ensures c.in_ok-new.ensures.taken in steps_are (objective_steps arrays) (declares d ∷ declares e
    ∷ sense_steps arrays.sense) old _ _ steps (call_then (declares d) (declares e ∷ sense_steps arrays.sense) old one _
    _ (refusals old d) (one ≡ old) refl c.in_ok-objective.ensures.answers
    (call_err (declares e) (sense_steps arrays.sense) one _ _ (refusals one e) c.in_err-constant-2.field-0.0 _ _
    refl c.in_err-constant-2.ensures.answers c.from_residual-in_err-constant-2.ensures.1))

pub returns : goal.returns
returns c =
    let arrays = c.args.model.now in
    let old = c.args.builder.now in
    let one = c.objective.new.self in
    let two = c.constant.new.self in
    let constant = c.in_ok-constant.constant in
    let new_name = c.in_ok-new.field-0 in
    let d = declare_objective new_name in
    let e = declare_constant constant in
    let steps = objective_taken arrays c.in_ok-name.name.now
    new_name constant c.in_ok-name.ensures c.in_ok-constant.ensures c.in_ok-new.ensures.taken in
    steps_are (objective_steps arrays) (declares d ∷ declares e ∷ sense_steps arrays.sense) old _ _ steps
    (call_then (declares d) (declares e ∷ sense_steps arrays.sense) old one _ _ (refusals old d) (one ≡ old)
    refl c.in_ok-objective.ensures.answers (call_then (declares e) (sense_steps arrays.sense) one
    two _ _ (refusals one e) (two ≡ one) refl c.in_ok-constant-2.ensures.answers c.declare_sense.ensures))
