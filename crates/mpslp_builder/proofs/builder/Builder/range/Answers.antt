use Rattle.mpslp_builder.proofs.Prelude.{refl, ap, ◌∙◌, Some, Draft, declare_range, refusals, first_refusal, draft}
use Rattle.mpslp_builder.proofs.{MadeDrafts.{none_refused, made_after, answered, handed_on}, LineLemmas.{range_added, row_changed_numbered}}
use Rattle.mpslp_builder.proofs.builder.Builder.range.Goals as goal

pub returns-in_err-index-clause-answers : goal.returns-in_err-index-clause-answers
returns-in_err-index-clause-answers c = let d = declare_range c.args.row.now c.args.value in
    let refused = c.in_err-index.ensures.answer ∙ ap (λ (all : Draft). first_refusal (refusals all d)) c.self.view_is in
    handed_on (refusals c.args.self.now d) c.from_residual.result c.in_err-index.field-0.0 _ _ c.from_residual.ensures.1
    refused refl

pub invariant_of-self : goal.invariant_of-self
invariant_of-self c =
    let b = c.self.inside in
    let d = declare_range c.args.row.now c.args.value in
    let none = none_refused (refusals (draft b.sense b.constant b.tables) d) c.in_ok-index.ensures.answer in
    let after = range_added b.sense b.constant b.tables c.put_range.new.self c.self.invariant.1 c.in_ok-index.ensures.once
    c.in_ok-index.index c.args.row.now c.in_ok-index.ensures.place c.args.value c.put_range.ensures in (
      made_after d after c.self.invariant.0 c.each_value_is_a_decimal.ensures none refl,
      row_changed_numbered b.sense b.constant b.tables c.put_range.new.self (λ row. record row {
        range =
            Some c.args.value;
      }) c.in_ok-index.index c.put_range.ensures c.self.invariant.1,
    )

pub returns-clause-answers : goal.returns-clause-answers
returns-clause-answers c =
    let b = c.self.inside in
    let d = declare_range c.args.row.now c.args.value in
    let none = none_refused (refusals (draft b.sense b.constant b.tables) d) c.in_ok-index.ensures.answer in
    let after = range_added b.sense b.constant b.tables c.put_range.new.self c.self.invariant.1 c.in_ok-index.ensures.once
    c.in_ok-index.index c.args.row.now c.in_ok-index.ensures.place c.args.value c.put_range.ensures in
    answered d c.self.view_is after none
