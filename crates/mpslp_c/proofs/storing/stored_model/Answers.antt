use Rattle.std.{proofs.Common.{◌≡◌, ◌∙◌, ap, subst, None, Err}, specs.Prelude.is_some}
use Rattle.mpslp_builder.specs.{Declaration.{Draft, empty_draft}, Meaning.DraftMeans}
use Rattle.mpslp_c.specs.{Answers.TakesItems, Stored.{items, first_item_fault, after_items}}
use Rattle.mpslp_c.proofs.DefinesLemmas.{objective-declared, defines-from_none, no_fault, not_taken}
use Rattle.mpslp_c.proofs.storing.stored_model.Goals as goal

pub returns-in_err-declare_items-clause-accepts : goal.returns-in_err-declare_items-clause-accepts
returns-in_err-declare_items-clause-accepts c = λ m defines. let arrays = c.args.model.now in
    let new = c.declare_items.new.builder in
    let why = c.in_err-declare_items.field-0.0 in
    not_taken arrays m new why c.from_residual.result
    (subst (λ (d : Draft). TakesItems (items arrays) d new (Err why)) c.new_seeded-builder.ensures
    c.in_err-declare_items.ensures) defines c.from_residual.ensures.1

pub finish-requires : goal.finish-requires
finish-requires c =
    let arrays = c.args.model.now in
    let none : first_item_fault empty_draft (items arrays)
    ≡ None = subst (λ (d : Draft). first_item_fault d (items arrays) ≡ None) c.new_seeded-builder.ensures
    c.in_ok-declare_items.ensures.0 in
    let all : c.declare_items.new.builder ≡ after_items empty_draft (items arrays) =
    c.in_ok-declare_items.ensures.1 ∙ ap (λ (d : Draft). after_items d (items arrays))
    c.new_seeded-builder.ensures in ap (λ (d : Draft). is_some d.objective) all ∙ objective-declared arrays none

pub returns-in-Err-File-clause-accepts : goal.returns-in-Err-File-clause-accepts
returns-in-Err-File-clause-accepts c = λ m defines. let arrays = c.args.model.now in
    let all : c.declare_items.new.builder ≡ after_items empty_draft (items arrays) = c.in_ok-declare_items.ensures.1
    ∙ ap (λ (d : Draft). after_items d (items arrays)) c.new_seeded-builder.ensures in
    absurd (no_fault arrays m c.declare_items.new.builder c.in-Err-File.fault defines all
    c.each_builder_is_made.ensures (rw c.in-Err-File.field-0-is at c.in-Err-File.ensures))

pub returns-in-Ok-clause-answer : goal.returns-in-Ok-clause-answer
returns-in-Ok-clause-answer c =
    let arrays = c.args.model.now in
    let none : first_item_fault empty_draft (items arrays)
    ≡ None = subst (λ (d : Draft). first_item_fault d (items arrays) ≡ None) c.new_seeded-builder.ensures
    c.in_ok-declare_items.ensures.0 in
    let all : c.declare_items.new.builder ≡ after_items empty_draft (items arrays) = c.in_ok-declare_items.ensures.1
    ∙ ap (λ (d : Draft). after_items d (items arrays)) c.new_seeded-builder.ensures in
    defines-from_none arrays c.in-Ok.model none (subst (λ (d : Draft). DraftMeans d c.in-Ok.model) all c.in-Ok.ensures.1)
