use Rattle.mpslp_mps.proofs.Prelude
use Prelude.{◌≡◌, subst, ◌∙◌, sym, ◌++◌, Option, FaultKind, when, with_declarations, declare_integer, declare_semi, declared_fault}
use Prelude.{IsErrorOf, kind_declared, bound_declared}
use Rattle.mpslp_lines.proofs.{AnswerLemmas.ends-by, UnchangedLemmas.{if_fault-none, if_fault-ends, if_fault-declared}}
use Rattle.mpslp_mps.proofs.SideLemmas.{kind-refused, bound-asked, bound-declares}
use Rattle.mpslp_mps.proofs.bounds.declare_bound.Goals as goal

pub returns-in_err-check_bounds_given-clause-answers : goal.returns-in_err-check_bounds_given-clause-answers
returns-in_err-check_bounds_given-clause-answers c = let error = c.in_err-check_bounds_given.field-0.0 in ends-by c.from_residual.result
    error _ _ c.from_residual.ensures.1 (subst (λ (o : Option FaultKind). IsErrorOf o error) (bound-asked c.args.builder.now
    c.args.bound_type c.args.column.now c.args.value c.bounds_of_type-lower.result.0 c.bounds_of_type-lower.result.1 c.requires.apart
    c.bounds_of_type-lower.ensures.lower c.bounds_of_type-lower.ensures.upper) c.in_err-check_bounds_given.ensures)

pub returns-in_err-declare_kind-clause-answers : goal.returns-in_err-declare_kind-clause-answers
returns-in_err-declare_kind-clause-answers c =
    let error = c.in_err-declare_kind.field-0.0 in
    ends-by c.from_residual-in_err-declare_kind.result error _ _ c.from_residual-in_err-declare_kind.ensures.1
    (kind-refused c.args.builder.now c.args.bound_type c.args.column.now c.args.value error c.requires.apart
    c.in_err-declare_kind.ensures)

pub returns-in_err-declare_kind-clause-unchanged : goal.returns-in_err-declare_kind-clause-unchanged
returns-in_err-declare_kind-clause-unchanged c =
    let all = c.args.builder.now in
    let error = c.in_err-declare_kind.field-0.0 in
    let asked = bound-asked all c.args.bound_type c.args.column.now c.args.value c.bounds_of_type-lower.result.0
    c.bounds_of_type-lower.result.1 c.requires.apart c.bounds_of_type-lower.ensures.lower c.bounds_of_type-lower.ensures.upper in
    if_fault-ends c.from_residual-in_err-declare_kind.result error _ c.from_residual-in_err-declare_kind.ensures.1
    (if_fault-none (declared_fault all (bound_declared c.args.bound_type c.args.column.now c.args.value)) error _
    (sym asked ∙ c.in_ok-check_bounds_given.ensures)
    (kind-refused all c.args.bound_type c.args.column.now c.args.value error c.requires.apart c.in_err-declare_kind.ensures))

pub returns-clause-answers : goal.returns-clause-answers
returns-clause-answers c = bound-declares c.args.builder.now c.declare_kind.new.builder c.declare_bounds_given-2.new.builder
    c.args.bound_type c.args.column.now c.args.value c.bounds_of_type-lower.result.0 c.bounds_of_type-lower.result.1
    c.declare_bounds_given-2.result c.requires.apart c.in_ok-declare_kind.ensures.1 c.bounds_of_type-lower.ensures.lower
    c.bounds_of_type-lower.ensures.upper c.declare_bounds_given-2.ensures.answers

pub returns-clause-unchanged : goal.returns-clause-unchanged
returns-clause-unchanged c =
    let all = c.args.builder.now in
    let asked = bound-asked all c.args.bound_type c.args.column.now c.args.value c.bounds_of_type-lower.result.0
    c.bounds_of_type-lower.result.1 c.requires.apart c.bounds_of_type-lower.ensures.lower c.bounds_of_type-lower.ensures.upper in
    if_fault-declared all c.declare_bounds_given-2.new.builder (bound_declared c.args.bound_type c.args.column.now c.args.value)
    c.declare_bounds_given-2.result _ (sym asked ∙ c.in_ok-check_bounds_given.ensures) (bound-declares all c.declare_kind.new.builder
    c.declare_bounds_given-2.new.builder c.args.bound_type c.args.column.now c.args.value c.bounds_of_type-lower.result.0
    c.bounds_of_type-lower.result.1 c.declare_bounds_given-2.result c.requires.apart c.in_ok-declare_kind.ensures.1
    c.bounds_of_type-lower.ensures.lower c.bounds_of_type-lower.ensures.upper c.declare_bounds_given-2.ensures.answers)

pub returns-then-has_bounds_only-clause-answers : goal.returns-then-has_bounds_only-clause-answers
returns-then-has_bounds_only-clause-answers c =
    let all = c.args.builder.now in
    let column = c.args.column.now in
    let bounds_only = c.has_bounds_only.ensures c.if-has_bounds_only.true in
    let same : all ≡ with_declarations all (kind_declared c.args.bound_type column) = λ i. with_declarations all
    (when (sym bounds_only.0 i) (declare_integer column) ++ when (sym bounds_only.1 i) (declare_semi column)) in
    bound-declares all all c.declare_bounds_given.new.builder c.args.bound_type column c.args.value c.bounds_of_type-lower.result.0
    c.bounds_of_type-lower.result.1 c.declare_bounds_given.result c.requires.apart same c.bounds_of_type-lower.ensures.lower
    c.bounds_of_type-lower.ensures.upper c.declare_bounds_given.ensures.answers
