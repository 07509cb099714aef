use Rattle.mpslp_builder.proofs.Prelude
use Prelude.{◌≡◌, refl, sym, ap, ◌∙◌, true, false, Bool, [], ◌∷◌, is_some, ◌||◌, if◌then◌else◌, first_refusal, Draft, declare_rhs}
use Prelude.{with_declarations, is_free_row, refusals, draft}
use Rattle.mpslp_builder.proofs.MadeDrafts.{none_refused, none_reported, made_after, made_now, declared, handed_on, free_rhs-passes}
use Rattle.mpslp_builder.proofs.{LineLemmas.{rhs_added, rhs_added_numbered}, ReadingLemmas.{free_at, typed_place}}
use Rattle.mpslp_builder.proofs.builder.Builder.rhs.Goals as goal

pub returns-in_err-place-clause-answers : goal.returns-in_err-place-clause-answers
returns-in_err-place-clause-answers c = let d = declare_rhs c.args.row.now c.args.value in
    let refused = c.in_err-place.ensures.answer ∙ ap (λ (all : Draft). first_refusal (refusals all d)) c.self.view_is in
    handed_on (refusals c.args.self.now d) c.from_residual.result c.in_err-place.field-0.0 _ _ c.from_residual.ensures.1
    refused refl

pub returns-in_err-place-clause-free : goal.returns-in_err-place-clause-free
returns-in_err-place-clause-free c = λ free. let d = declare_rhs c.args.row.now c.args.value in
    let refused = c.in_err-place.ensures.answer ∙ ap (λ (all : Draft). first_refusal (refusals all d)) c.self.view_is in
    let passes = free_rhs-passes c.args.self.now c.args.row.now c.args.value (made_now c.self.view_is c.self.invariant.0) free in
    none_reported (refusals c.args.self.now d) c.in_err-place.field-0.0 passes refused

pub returns-then-is_free-clause-answers : goal.returns-then-is_free-clause-answers
returns-then-is_free-clause-answers c =
    let b = c.self.inside in
    let all = c.args.self.now in
    let place = c.in_ok-place.ensures in
    let d = declare_rhs c.args.row.now c.args.value in
    let none = none_refused (refusals all d) (place.answer ∙ ap (λ (all : Draft). first_refusal (refusals all d))
    c.self.view_is) in
    let free : is_free_row all c.args.row.now ≡ true =
    ap (λ (all : Draft). is_free_row all c.args.row.now) (sym c.self.view_is) ∙ free_at b.sense b.constant b.tables
    place.once c.self.invariant.1 c.in_ok-place.place c.args.row.now place.place ∙ sym c.if-is_free.ensures in
    declared (refusals all d) _ _ none (sym (ap (λ (free : Bool). with_declarations all (if free then [] else d ∷ [])) free))

pub invariant_of-self : goal.invariant_of-self
invariant_of-self c =
    let b = c.self.inside in
    let place = c.in_ok-place.ensures in
    let d = declare_rhs c.args.row.now c.args.value in
    let none = none_refused (refusals (draft b.sense b.constant b.tables) d) place.answer in
    let free = free_at b.sense b.constant b.tables place.once c.self.invariant.1 c.in_ok-place.place c.args.row.now place.place
    ∙ sym c.if-is_free.ensures in
    let after = rhs_added b.sense b.constant b.tables c.put_rhs.new.self c.self.invariant.1 place.once
    c.in_ok-place.place c.args.row.now c.args.value (is_some b.constant) place.place place.absent c.put_rhs.ensures in (
      made_after d after c.self.invariant.0 c.each_value_is_a_decimal.ensures none free,
      rhs_added_numbered b.sense b.constant b.tables c.put_rhs.new.self c.in_ok-place.place c.args.value c.self.invariant.1
          c.put_rhs.ensures,
    )

pub returns-clause-answers : goal.returns-clause-answers
returns-clause-answers c =
    let b = c.self.inside in
    let all = c.args.self.now in
    let place = c.in_ok-place.ensures in
    let d = declare_rhs c.args.row.now c.args.value in
    let none = none_refused (refusals all d) (place.answer ∙ ap (λ (all : Draft). first_refusal (refusals all d))
    c.self.view_is) in
    let free : is_free_row all c.args.row.now ≡ false =
    ap (λ (all : Draft). is_free_row all c.args.row.now) (sym c.self.view_is) ∙ free_at b.sense b.constant b.tables
    place.once c.self.invariant.1 c.in_ok-place.place c.args.row.now place.place ∙ sym c.if-is_free.ensures in
    let after = rhs_added b.sense b.constant b.tables c.put_rhs.new.self c.self.invariant.1 place.once
    c.in_ok-place.place c.args.row.now c.args.value (is_some b.constant) place.place place.absent c.put_rhs.ensures in
    declared (refusals all d) _ _ none (after ∙ ap (λ (before : Draft). with_declarations before (d ∷ [])) c.self.view_is
    ∙ sym (ap (λ (free : Bool). with_declarations all (if free then [] else d ∷ [])) free))

pub put_rhs-requires-clause-typed : goal.put_rhs-requires-clause-typed
put_rhs-requires-clause-typed c = typed_place c.self.inside.tables (λ o. is_some o.rhs || is_some c.self.inside.constant)
    (λ row. is_some row.rhs) c.in_ok-place.place c.in_ok-place.ensures.absent
