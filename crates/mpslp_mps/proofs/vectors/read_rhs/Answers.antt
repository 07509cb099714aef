use Rattle.mpslp_mps.proofs.Prelude
use Prelude.{sym, ap, subst, ◌∙◌, rules, map, Bor, ℕ, List, Option, Some, FaultKind, with_declarations, judged_by, first_held, IsErrorOf}
use Prelude.{vector_shape, Rhs, vector_tests, rhs_values_declared}
use Rattle.mpslp_mps.proofs.ContextSteps.{step-right_side}
use Rattle.mpslp_mps.proofs.LineFaults.{data_fault-form, data_fault-declared, declared-is, vector-early}
use Rattle.mpslp_mps.proofs.LineFaults.{rhs_values-are}
use Rattle.mpslp_mps.proofs.OrderLemmas.{sides-apart}
use Rattle.mpslp_mps.proofs.vectors.read_rhs.Goals as goal

pub returns-in_err-set-clause-answers : goal.returns-in_err-set-clause-answers
returns-in_err-set-clause-answers c =
    let fields = map (λ (field : Bor (List ℕ)). field.now) c.args.fields.now in
    let held = ap (λ (first : Option (List ℕ)). first_held (judged_by (vector_tests first) (vector_shape fields)))
    (sym c.rhs_set.ensures) ∙ c.in_err-set.ensures in
    let fault_is = data_fault-form c.args.context.now c.args.builder.now fields (Some Rhs) c.in_err-set.field-0.0 c.requires.section
    (vector-early c.args.context.now.rhs_set (vector_shape fields)) (sides-apart c.args.context.now c.args.builder.now fields) held in
    search rules

pub returns-in_err-declare_rhs_values-clause-answers : goal.returns-in_err-declare_rhs_values-clause-answers
returns-in_err-declare_rhs_values-clause-answers c =
    let fields = map (λ (field : Bor (List ℕ)). field.now) c.args.fields.now in
    let held = ap (λ (first : Option (List ℕ)). first_held (judged_by (vector_tests first) (vector_shape fields)))
    (sym c.rhs_set.ensures) ∙ c.in_ok-set.ensures.0 in
    let is = rhs_values-are c.args.builder.now (vector_shape fields) c.in_ok-set.set.now c.in_ok-set.sides c.in_ok-set.ensures.1 in
    let fault_is = data_fault-declared c.args.context.now c.args.builder.now fields (Some Rhs)
    (rhs_values_declared c.args.builder.now c.in_ok-set.sides) c.requires.section held is in
    let answer = subst (λ (o : Option FaultKind). IsErrorOf o c.in_err-declare_rhs_values.field-0.0) (sym fault_is)
    c.in_err-declare_rhs_values.ensures.answers in
    search rules

pub returns-clause-answers : goal.returns-clause-answers
returns-clause-answers c =
    let fields = map (λ (field : Bor (List ℕ)). field.now) c.args.fields.now in
    let held = ap (λ (first : Option (List ℕ)). first_held (judged_by (vector_tests first) (vector_shape fields))) (sym c.rhs_set.ensures)
    ∙ c.in_ok-set.ensures.0 in
    let is = rhs_values-are c.args.builder.now (vector_shape fields) c.in_ok-set.set.now c.in_ok-set.sides c.in_ok-set.ensures.1 in
    let fault_is = data_fault-declared c.args.context.now c.args.builder.now fields (Some Rhs)
    (rhs_values_declared c.args.builder.now c.in_ok-set.sides) c.requires.section held is in
    let same = declared-is c.args.context.now c.args.builder.now fields (Some Rhs)
    (rhs_values_declared c.args.builder.now c.in_ok-set.sides) c.requires.section is in (
      fault_is ∙ c.in_ok-declare_rhs_values.ensures.answers.0,
      c.in_ok-pass_set.ensures
          ∙ sym (step-right_side c.args.context.now fields c.in_ok-set.set.now c.in_ok-set.sides c.requires.section
          c.in_ok-set.ensures.1),
      c.in_ok-declare_rhs_values.ensures.answers.1 ∙ ap (with_declarations c.args.builder.now) (sym same),
    )
