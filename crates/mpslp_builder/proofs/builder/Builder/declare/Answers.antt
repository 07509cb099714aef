use Rattle.std.proofs.Common.{◌≡◌, ℕ, List, true, false}
use Rattle.std.specs.Prelude.{Option, None}
use Rattle.mpslp_decimal.specs.Decimal.{Number}
use Rattle.mpslp_types.specs.declared.kinds.Sense.{Sense}
use Rattle.mpslp_builder_parts.specs.{Parts.{ColumnParts, cells_of}}
use Rattle.mpslp_builder_parts.specs.declared.parts.Property.{Property, TheVariants.{Marked, Integer, Binary, Semi}}
use Rattle.mpslp_builder.specs.{Calls.{declare_property, with_property}, Made.is_legal, declared.tables.Tables.Tables}
use Rattle.mpslp_builder.proofs.Prelude.{refl, ap, ◌∙◌, first_refusal, Draft, refusals, draft}
use Rattle.mpslp_builder.proofs.MadeDrafts.{none_refused, made_after, answered, handed_on, is_free_rhs}
use Rattle.mpslp_builder.proofs.LineLemmas.{property_added, column_changed_numbered}
use Rattle.mpslp_builder.proofs.builder.Builder.declare.Goals as goal

-- neither the sense nor the constant is of account for the errors
in_any_draft : (property : Property) (name : List ℕ) (t : Tables) (sense : Option Sense) (constant : Option Number) →
    refusals (draft None None t) (declare_property property name) ≡ refusals (draft sense constant t) (declare_property property name)
in_any_draft Marked name t sense constant = refl
in_any_draft Integer name t sense constant = refl
in_any_draft Binary name t sense constant = refl
in_any_draft Semi name t sense constant = refl

legal : (property : Property) (name : List ℕ) → is_legal (declare_property property name) ≡ true
legal Marked name = refl
legal Integer name = refl
legal Binary name = refl
legal Semi name = refl

no_rhs : (property : Property) (name : List ℕ) (all : Draft) → is_free_rhs all (declare_property property name) ≡ false
no_rhs Marked name all = refl
no_rhs Integer name all = refl
no_rhs Binary name all = refl
no_rhs Semi name all = refl

cells_kept : (property : Property) (parts : ColumnParts) → cells_of (with_property property parts) ≡ cells_of parts
cells_kept Marked parts = refl
cells_kept Integer parts = refl
cells_kept Binary parts = refl
cells_kept Semi parts = refl

pub returns-in_err-number-clause-answers : goal.returns-in_err-number-clause-answers
returns-in_err-number-clause-answers c =
    let b = c.self.inside in
    let d = declare_property c.args.property c.args.column.now in
    let refused = c.in_err-number.ensures.answer
    ∙ ap first_refusal (in_any_draft c.args.property c.args.column.now b.tables b.sense b.constant)
    ∙ ap (λ (all : Draft). first_refusal (refusals all d)) c.self.view_is in
    handed_on (refusals c.args.self.now d) c.from_residual.result c.in_err-number.field-0.0 _ _ c.from_residual.ensures.1
    refused refl

pub invariant_of-self : goal.invariant_of-self
invariant_of-self c =
    let b = c.self.inside in
    let property = c.args.property in
    let name = c.args.column.now in
    let d = declare_property property name in
    let number = c.in_ok-number.number in
    let none = none_refused (refusals (draft b.sense b.constant b.tables) d)
    (c.in_ok-number.ensures.answer ∙ ap first_refusal (in_any_draft property name b.tables b.sense b.constant)) in
    let after = property_added b.sense b.constant b.tables c.put_property.new.self c.in_ok-number.ensures.once number
    name c.in_ok-number.ensures.number property c.put_property.ensures in (
      made_after d after c.self.invariant.0 (legal property name) none (no_rhs property name (draft b.sense b.constant b.tables)),
      column_changed_numbered b.sense b.constant b.tables c.put_property.new.self (with_property property) number
          c.put_property.ensures (cells_kept property c.put_property.ensures.parts) c.self.invariant.1,
    )

pub returns-clause-answers : goal.returns-clause-answers
returns-clause-answers c =
    let b = c.self.inside in
    let property = c.args.property in
    let name = c.args.column.now in
    let d = declare_property property name in
    let none = none_refused (refusals (draft b.sense b.constant b.tables) d)
    (c.in_ok-number.ensures.answer ∙ ap first_refusal (in_any_draft property name b.tables b.sense b.constant)) in
    let after = property_added b.sense b.constant b.tables c.put_property.new.self c.in_ok-number.ensures.once
    c.in_ok-number.number name c.in_ok-number.ensures.number property c.put_property.ensures in
    answered d c.self.view_is after none
