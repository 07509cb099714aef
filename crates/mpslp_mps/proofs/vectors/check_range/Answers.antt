use Rattle.mpslp_mps.proofs.Prelude
use Prelude.{◌≡◌, sym, subst, ◌∙◌, refl, rules, ℕ, List, [], ◌∷◌, None, Number, declare_range, error_of_build, IsErrorOf, declared_fault}
use Rattle.mpslp_lines.proofs.RefusedLemmas.{check-none, check-error}
use Rattle.mpslp_mps.proofs.vectors.check_range.Goals as goal

pub returns-in_err-check_range : goal.returns-in_err-check_range
returns-in_err-check_range c =
    let all = c.args.builder.now in
    let d = declare_range c.row.inside.row.now c.row.inside.value in
    let fault = c.in_err-check_range.field-0.0 in
    let refused = check-error all d fault refl (sym c.in_err-check_range.was ∙ c.check_range.ensures) in
    let declared = subst (λ (row : List ℕ × Number). IsErrorOf (declared_fault all (declare_range row.0 row.1 ∷ []))
    (error_of_build fault)) c.row.view_is refused in
    search rules

pub returns : goal.returns
returns c =
    let all = c.args.builder.now in
    let d = declare_range c.row.inside.row.now c.row.inside.value in
    let none = check-none all d refl (sym c.in_ok-check_range.was ∙ c.check_range.ensures) in
    subst (λ (row : List ℕ × Number). declared_fault all (declare_range row.0 row.1 ∷ []) ≡ None) c.row.view_is none
