use Rattle.mpslp_builder.proofs.Prelude.{refl, ap, ◌∙◌, at, first_refusal, Draft, declare_coefficient, refusals, draft}
use Rattle.mpslp_builder.proofs.MadeDrafts.{none_refused, made_after, answered, handed_on, want_of_memory}
use Rattle.mpslp_builder.proofs.LineLemmas.{same_tables, cell_added, cell_added_numbered}
use Rattle.mpslp_builder.proofs.builder.Builder.coefficient.Goals as goal

pub returns-in_err-place : goal.returns-in_err-place
returns-in_err-place c = let d = declare_coefficient (at c.args.row.now c.args.column.now) c.args.value in
    let refused = c.in_err-place.ensures.answer ∙ ap (λ (all : Draft). first_refusal (refusals all d)) c.self.view_is in
    handed_on (refusals c.args.self.now d) c.from_residual.result c.in_err-place.field-0.0 _ _ c.from_residual.ensures.1
    refused refl

pub returns-in_err-put_cell : goal.returns-in_err-put_cell
returns-in_err-put_cell c =
    let b = c.self.inside in
    let d = declare_coefficient (at c.args.row.now c.args.column.now) c.args.value in
    let none = none_refused (refusals c.args.self.now d)
    (c.in_ok-place.ensures.answer ∙ ap (λ (all : Draft). first_refusal (refusals all d)) c.self.view_is) in
    want_of_memory (refusals c.args.self.now d) c.from_residual-in_err-put_cell.result _ _
    c.from_residual-in_err-put_cell.ensures.1 none
    (same_tables b.sense b.constant b.tables c.put_cell.new.self c.in_err-put_cell.ensures.err ∙ c.self.view_is)

pub invariant_of-self-2 : goal.invariant_of-self-2
invariant_of-self-2 c =
    let b = c.self.inside in
    let place = c.in_ok-place.ensures in
    let at_row = c.in_ok-place.place.row in
    let at_column = c.in_ok-place.place.column in
    let d = declare_coefficient (at c.args.row.now c.args.column.now) c.args.value in
    let none = none_refused (refusals (draft b.sense b.constant b.tables) d) place.answer in
    let after = cell_added b.sense b.constant b.tables c.put_cell.new.self place.once at_column c.args.column.now place.column
    c.self.invariant.1 at_row c.args.row.now place.row c.args.value c.in_ok-put_cell.ensures.ok place.absent in (
      made_after d after c.self.invariant.0 c.each_value_is_a_decimal.ensures none refl,
      cell_added_numbered b.sense b.constant b.tables c.put_cell.new.self place.once at_column c.args.column.now place.column
          c.self.invariant.1 at_row c.args.row.now place.row c.args.value c.in_ok-put_cell.ensures.ok,
    )

pub returns : goal.returns
returns c =
    let b = c.self.inside in
    let place = c.in_ok-place.ensures in
    let at_row = c.in_ok-place.place.row in
    let at_column = c.in_ok-place.place.column in
    let d = declare_coefficient (at c.args.row.now c.args.column.now) c.args.value in
    let none = none_refused (refusals (draft b.sense b.constant b.tables) d) place.answer in
    let after = cell_added b.sense b.constant b.tables c.put_cell.new.self place.once at_column c.args.column.now
    place.column c.self.invariant.1 at_row c.args.row.now place.row c.args.value c.in_ok-put_cell.ensures.ok
    place.absent in answered d c.self.view_is after none
