use Rattle.mpslp_mps.proofs.Prelude
use Prelude.{◌≡◌, refl, subst, rules, ℕ, List, [], ◌∷◌, Number, declare_range, Draft, with_declaration, refusals, error_of_build, IsErrorOf}
use Prelude.{declared_fault}
use Rattle.mpslp_lines.proofs.RefusedLemmas.{call-error, call-unchanged}
use Rattle.mpslp_mps.proofs.vectors.declare_range.Goals as goal

pub returns-in_err-range-clause-answers : goal.returns-in_err-range-clause-answers
returns-in_err-range-clause-answers c =
    let all = c.args.builder.now in
    let d = declare_range c.row.inside.row.now c.row.inside.value in
    let fault = c.in_err-range.field-0.0 in
    let fault_is = call-error all d fault (◌≡◌ {A = Draft} c.range.new.self
    (with_declaration all d)) (◌≡◌ {A = Draft} c.range.new.self all) refl c.in_err-range.ensures.answers in
    let declared = subst (λ (row : List ℕ × Number). IsErrorOf (declared_fault all (declare_range row.0 row.1 ∷ []))
    (error_of_build fault)) c.row.view_is fault_is in
    search rules

pub returns-in_err-range-clause-unchanged : goal.returns-in_err-range-clause-unchanged
returns-in_err-range-clause-unchanged c =
    let all = c.args.builder.now in
    let d = declare_range c.row.inside.row.now c.row.inside.value in
    let same = call-unchanged (refusals all d) c.in_err-range.field-0.0 (◌≡◌ {A = Draft} c.range.new.self (with_declaration all d))
    (◌≡◌ {A = Draft} c.range.new.self all) c.in_err-range.ensures.answers in
    search rules
