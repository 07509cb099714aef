use Rattle.mpslp_mps.proofs.Prelude
use Prelude.{sym, ap, subst, ◌∙◌, rules, map, Bor, ℕ, List, Option, Some, FaultKind, with_declarations, judged_by, first_held, IsErrorOf}
use Prelude.{vector_shape, Ranges, vector_tests, ranges_of}
use Rattle.mpslp_mps.proofs.ContextSteps.{step-range}
use Rattle.mpslp_mps.proofs.LineFaults.{data_fault-form, data_fault-declared, declared-is, vector-early}
use Rattle.mpslp_mps.proofs.LineFaults.{ranges-are}
use Rattle.mpslp_mps.proofs.OrderLemmas.{ranges-apart}
use Rattle.mpslp_mps.proofs.vectors.read_range.Goals as goal

pub returns-in_err-set-clause-answers : goal.returns-in_err-set-clause-answers
returns-in_err-set-clause-answers c =
    let fields = map (λ (field : Bor (List ℕ)). field.now) c.args.fields.now in
    let held = ap (λ (first : Option (List ℕ)). first_held (judged_by (vector_tests first) (vector_shape fields)))
    (sym c.ranges_set.ensures) ∙ c.in_err-set.ensures in
    let fault_is = data_fault-form c.args.context.now c.args.builder.now fields (Some Ranges) c.in_err-set.field-0.0 c.requires
    (vector-early c.args.context.now.ranges_set (vector_shape fields)) (ranges-apart c.args.context.now c.args.builder.now fields) held in
    search rules

pub returns-in_err-declare_ranges-clause-answers : goal.returns-in_err-declare_ranges-clause-answers
returns-in_err-declare_ranges-clause-answers c =
    let fields = map (λ (field : Bor (List ℕ)). field.now) c.args.fields.now in
    let held = ap (λ (first : Option (List ℕ)). first_held (judged_by (vector_tests first) (vector_shape fields)))
    (sym c.ranges_set.ensures) ∙ c.in_ok-set.ensures.0 in
    let is = ranges-are (vector_shape fields) c.in_ok-set.set.now c.in_ok-set.ranges c.in_ok-set.ensures.1 in
    let fault_is = data_fault-declared c.args.context.now c.args.builder.now fields (Some Ranges)
    (ranges_of c.in_ok-set.ranges) c.requires held is in
    let answer = subst (λ (o : Option FaultKind). IsErrorOf o c.in_err-declare_ranges.field-0.0) (sym fault_is)
    c.in_err-declare_ranges.ensures.answers in
    search rules

pub returns-clause-answers : goal.returns-clause-answers
returns-clause-answers c =
    let fields = map (λ (field : Bor (List ℕ)). field.now) c.args.fields.now in
    let held = ap (λ (first : Option (List ℕ)). first_held (judged_by (vector_tests first) (vector_shape fields)))
    (sym c.ranges_set.ensures) ∙ c.in_ok-set.ensures.0 in
    let is = ranges-are (vector_shape fields) c.in_ok-set.set.now c.in_ok-set.ranges c.in_ok-set.ensures.1 in
    let fault_is = data_fault-declared c.args.context.now c.args.builder.now fields (Some Ranges)
    (ranges_of c.in_ok-set.ranges) c.requires
    held is in
    let same = declared-is c.args.context.now c.args.builder.now fields (Some Ranges) (ranges_of c.in_ok-set.ranges) c.requires is in (
      fault_is ∙ c.in_ok-declare_ranges.ensures.answers.0,
      c.in_ok-pass_set.ensures
          ∙ sym (step-range c.args.context.now fields c.in_ok-set.set.now c.in_ok-set.ranges c.requires c.in_ok-set.ensures.1),
      c.in_ok-declare_ranges.ensures.answers.1 ∙ ap (with_declarations c.args.builder.now) (sym same),
    )
