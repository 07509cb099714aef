use Rattle.mpslp_builder.proofs.Prelude
use Prelude.{refl, sym, ap, subst, ◌∙◌, first_refusal, Draft, with_declarations, bounds_declared, IsMade, bounds_refusals, draft}
use Prelude.{with_bounds}
use Rattle.mpslp_builder.proofs.MadeDrafts.{none_refused, made_sides, declared, handed_on, want_of_memory}
use Rattle.mpslp_builder.proofs.LineLemmas.{same_tables, sides_added, column_changed_numbered}
use Rattle.mpslp_builder.proofs.builder.Builder.bounds.Goals as goal

pub returns-in_err-number : goal.returns-in_err-number
returns-in_err-number c =
    let column = c.args.column.now in
    let refused = c.in_err-number.ensures.answer
    ∙ ap (λ (all : Draft). first_refusal (bounds_refusals all column c.args.lower c.args.upper)) c.self.view_is in
    handed_on (bounds_refusals c.args.self.now column c.args.lower c.args.upper) c.from_residual.result
    c.in_err-number.field-0.0 _ _ c.from_residual.ensures.1 refused refl

pub returns-in_err-put_bounds : goal.returns-in_err-put_bounds
returns-in_err-put_bounds c =
    let b = c.self.inside in
    let all = c.args.self.now in
    let column = c.args.column.now in
    let none = none_refused (bounds_refusals all column c.args.lower c.args.upper) (c.in_ok-number.ensures.answer ∙ ap
    (λ (all : Draft). first_refusal (bounds_refusals all column c.args.lower c.args.upper)) c.self.view_is) in
    let same = same_tables b.sense b.constant b.tables c.put_bounds.new.self c.in_err-put_bounds.ensures.err ∙ c.self.view_is in
    want_of_memory (bounds_refusals all column c.args.lower c.args.upper)
    c.from_residual-in_err-put_bounds.result _ _ c.from_residual-in_err-put_bounds.ensures.1 none same

pub invariant_of-self-2 : goal.invariant_of-self-2
invariant_of-self-2 c =
    let b = c.self.inside in
    let column = c.args.column.now in
    let found = c.in_ok-number.ensures in
    let none = none_refused (bounds_refusals (draft b.sense b.constant b.tables) column c.args.lower c.args.upper) found.answer in
    let after = sides_added b.sense b.constant b.tables c.put_bounds.new.self found.once c.in_ok-number.number column found.number
    c.args.lower c.args.upper c.in_ok-put_bounds.ensures.ok in (
      subst IsMade (sym after) (made_sides column c.args.lower c.args.upper refl c.self.invariant.0 c.requires.lower
          c.requires.upper none),
      column_changed_numbered b.sense b.constant b.tables c.put_bounds.new.self (with_bounds c.args.lower c.args.upper)
          c.in_ok-number.number c.in_ok-put_bounds.ensures.ok refl c.self.invariant.1,
    )

pub returns : goal.returns
returns c =
    let b = c.self.inside in
    let column = c.args.column.now in
    let found = c.in_ok-number.ensures in
    let none = none_refused (bounds_refusals c.args.self.now column c.args.lower c.args.upper)
    (found.answer ∙ ap (λ (all : Draft). first_refusal (bounds_refusals all column c.args.lower c.args.upper)) c.self.view_is) in
    let after = sides_added b.sense b.constant b.tables c.put_bounds.new.self found.once c.in_ok-number.number column found.number
    c.args.lower c.args.upper c.in_ok-put_bounds.ensures.ok in
    declared (bounds_refusals c.args.self.now column c.args.lower c.args.upper) _ _ none
    (after ∙ ap (λ (before : Draft). with_declarations before
    (bounds_declared column c.args.lower c.args.upper)) c.self.view_is)
