use Rattle.mpslp_mps.proofs.Prelude.{sym, ap, subst, ◌∙◌, rules, map, Bor, ℕ, List, ◌∷◌, Option, Some, FaultKind, with_declarations}
use Rattle.mpslp_mps.proofs.Prelude.{IsErrorOf, BoundLine, Bounds, after_set, bound_declared, type_clash}
use Rattle.mpslp_mps.proofs.ContextSteps.{step-bound}
use Rattle.mpslp_mps.proofs.LineFaults.{data_fault-form, clash-reported, data_fault-declared, declared-is, bounds-early, bounds-after}
use Rattle.mpslp_mps.proofs.{OrderLemmas.{bound-clashes, bound-apart}, SideLemmas.bound-is}
use Rattle.mpslp_mps.proofs.bounds.read_typed_bound.Goals as goal

pub returns-then-has_bound_clash-clause-answers : goal.returns-then-has_bound_clash-clause-answers
returns-then-has_bound_clash-clause-answers c =
    let more = map (λ (field : Bor (List ℕ)). field.now) c.args.more.now in
    clash-reported c.args.context.now c.args.builder.now (c.args.letters.now ∷ more) (Some Bounds) c.requires
    (bounds-after c.args.context.now c.args.letters.now more)
    (bound-clashes c.args.builder.now (c.args.letters.now ∷ more) ∙ sym c.has_bound_clash.ensures ∙ c.if-has_bound_clash.true)

pub declare_bound-requires-clause-apart : goal.declare_bound-requires-clause-apart
declare_bound-requires-clause-apart c =
    let more = map (λ (field : Bor (List ℕ)). field.now) c.args.more.now in
    let said = c.in_ok-bound_type.ensures in
    let apart = sym c.has_bound_clash.ensures ∙ c.if-has_bound_clash.false in
    ap (λ (line : BoundLine). type_clash c.args.builder.now c.in_ok-bound_type.bound_type line.column) c.line.view_is
    ∙ bound-apart c.args.builder.now c.args.letters.now more c.in_ok-bound_type.bound_type c.in_ok-bound_type.line said.1 said.2 apart

pub returns-in_err-bound_type-clause-answers : goal.returns-in_err-bound_type-clause-answers
returns-in_err-bound_type-clause-answers c =
    let more = map (λ (field : Bor (List ℕ)). field.now) c.args.more.now in
    let apart = bound-clashes c.args.builder.now (c.args.letters.now ∷ more) ∙ sym c.has_bound_clash.ensures
    ∙ c.if-has_bound_clash.false in
    let fault_is = data_fault-form c.args.context.now c.args.builder.now (c.args.letters.now ∷ more) (Some Bounds)
    c.in_err-bound_type.field-0.0
    c.requires (bounds-early c.args.context.now c.args.letters.now more) apart c.in_err-bound_type.ensures in
    search rules

pub returns-in_err-declare_bound-clause-answers : goal.returns-in_err-declare_bound-clause-answers
returns-in_err-declare_bound-clause-answers c =
    let more = map (λ (field : Bor (List ℕ)). field.now) c.args.more.now in
    let line = c.in_ok-bound_type.line in
    let type = c.in_ok-bound_type.bound_type in
    let said = c.in_ok-bound_type.ensures in
    let declarations = bound_declared type c.line.inside.column.now c.bound_value_or_zero.result in
    let is = bound-is c.args.letters.now more type line c.in_ok-bound_type.value said.1 said.2 said.3
    ∙ (λ i. bound_declared type (sym c.line.view_is i).column (sym c.bound_value_or_zero.ensures.value i)) in
    let fault_is = data_fault-declared c.args.context.now c.args.builder.now (c.args.letters.now ∷ more)
    (Some Bounds) declarations c.requires said.0 is in
    let answer = subst (λ (o : Option FaultKind). IsErrorOf o c.in_err-declare_bound.field-0.0) (sym fault_is)
    c.in_err-declare_bound.ensures.answers in
    search rules

pub returns-clause-answers : goal.returns-clause-answers
returns-clause-answers c =
    let more = map (λ (field : Bor (List ℕ)). field.now) c.args.more.now in
    let line = c.in_ok-bound_type.line in
    let type = c.in_ok-bound_type.bound_type in
    let said = c.in_ok-bound_type.ensures in
    let declarations = bound_declared type c.line.inside.column.now c.bound_value_or_zero.result in
    let is = bound-is c.args.letters.now more type line c.in_ok-bound_type.value said.1 said.2 said.3
    ∙ (λ i. bound_declared type (sym c.line.view_is i).column (sym c.bound_value_or_zero.ensures.value i)) in
    let fault_is = data_fault-declared c.args.context.now c.args.builder.now (c.args.letters.now ∷ more) (Some Bounds) declarations
    c.requires said.0 is in
    let same = declared-is c.args.context.now c.args.builder.now (c.args.letters.now ∷ more) (Some Bounds) declarations c.requires is in
    let step = step-bound c.args.context.now c.args.letters.now more type line c.requires said.1 said.2 in (
      fault_is ∙ c.in_ok-declare_bound.ensures.answers.0,
      c.in_ok-pass_set.ensures ∙ ap (λ (parts : BoundLine). after_set c.args.context.now Bounds parts.set) c.line.view_is ∙ sym step,
      c.in_ok-declare_bound.ensures.answers.1 ∙ ap (with_declarations c.args.builder.now) (sym same),
    )
