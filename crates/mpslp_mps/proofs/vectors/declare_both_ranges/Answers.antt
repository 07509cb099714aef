use Rattle.mpslp_mps.proofs.{Prelude.{sym, ap, ◌∙◌, cond, Bool, ℕ, List, Some, Number, has_row}, SideLemmas.ranges-of_one}
use Rattle.mpslp_types.specs.declared.faults.FaultKind.TheVariants as kinds
use Rattle.mpslp_mps.proofs.vectors.declare_both_ranges.Goals as goal

pub returns-then-has_row-clause-answers : goal.returns-then-has_row-clause-answers
returns-then-has_row-clause-answers c =
    let all = c.args.builder.now in
    let there = ap (λ (row : List ℕ × Number). has_row all row.0) (sym c.first.view_is) ∙ sym c.has_row.ensures ∙ c.if-has_row.true in
    ranges-of_one all c.args.first.0 c.args.first.1 c.args.second.0 c.args.second.1
    (sym c.is_same_row.ensures ∙ c.if-not-is_same_row.false)
    ∙ ap (λ (b : Bool). Some (cond b kinds.DuplicateRange kinds.UnknownRow)) there

pub returns-clause-answers : goal.returns-clause-answers
returns-clause-answers c =
    let all = c.args.builder.now in
    let there = ap (λ (row : List ℕ × Number). has_row all row.0) (sym c.first.view_is) ∙ sym c.has_row.ensures ∙ c.if-has_row.false in
    ranges-of_one all c.args.first.0 c.args.first.1 c.args.second.0 c.args.second.1
    (sym c.is_same_row.ensures ∙ c.if-not-is_same_row.false)
    ∙ ap (λ (b : Bool). Some (cond b kinds.DuplicateRange kinds.UnknownRow)) there
