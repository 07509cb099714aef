use Rattle.std.{proofs.Common.{refl, sym, ap, ◌∙◌, true, false, Bool, [], ◌∷◌}, specs.Prelude.{None, ◌||◌, is_some}}
use Rattle.mpslp_types.specs.{Lists.those_of, declared.faults.BuildFault.TheVariants.{DuplicateRange, RangeOnFree, InfiniteValue}}
use Rattle.mpslp_model_core.specs.Limits.{is_free_definition}
use Rattle.mpslp_builder.specs.{Answer.first_refusal, Calls.{row_satisfies, has_limits, is_objective_ref}, declared.tables.RowRef.RowRef}
use Rattle.mpslp_builder.proofs.ReadingLemmas.{range_stated, typed_place}
use Rattle.mpslp_builder.proofs.tables.Tables.range_target.Goals as goal

pub returns-then-has_range-clause-answer : goal.returns-then-has_range-clause-answer
returns-then-has_range-clause-answer c = let t = c.args.self.now in
    let free : Bool = is_objective_ref c.in-Some.place || row_satisfies t c.in-Some.place (λ o. false)
    (λ row. is_free_definition row.definition) in
    sym (ap first_refusal (range_stated None t c.each_name_occurs_once.ensures c.requires c.in-Some.place c.args.row.now
    c.in-Some.ensures.place c.in-Some.ensures.found c.args.value true free c.if-has_range.ensures refl))

pub returns-in_default-place-clause-answer : goal.returns-in_default-place-clause-answer
returns-in_default-place-clause-answer c = let t = c.args.self.now in
    let free = ap (λ (p : RowRef). is_objective_ref p || row_satisfies t p (λ o. false)
    (λ row. is_free_definition row.definition)) c.in_default-place.is in
    sym (ap first_refusal (range_stated None t c.each_name_occurs_once.ensures c.requires c.in-Some.place
    c.args.row.now c.in-Some.ensures.place c.in-Some.ensures.found c.args.value false true c.if-has_range.ensures free))

pub returns-then-is_free-clause-answer : goal.returns-then-is_free-clause-answer
returns-then-is_free-clause-answer c = let t = c.args.self.now in
    let free = ap (λ (p : RowRef). is_objective_ref p || row_satisfies t p (λ o. false)
    (λ row. is_free_definition row.definition)) c.in-Row.is in
    sym (ap first_refusal (range_stated None t c.each_name_occurs_once.ensures c.requires c.in-Some.place c.args.row.now
    c.in-Some.ensures.place c.in-Some.ensures.found c.args.value false true c.if-has_range.ensures
    (free ∙ sym c.if-is_free.ensures)))

pub returns-then-is_infinite_size-clause-answer : goal.returns-then-is_infinite_size-clause-answer
returns-then-is_infinite_size-clause-answer c = let t = c.args.self.now in
    let free = ap (λ (p : RowRef). is_objective_ref p || row_satisfies t p (λ o. false)
    (λ row. is_free_definition row.definition)) c.in-Row.is in
    sym (ap first_refusal (range_stated None t c.each_name_occurs_once.ensures c.requires c.in-Some.place
    c.args.row.now c.in-Some.ensures.place c.in-Some.ensures.found c.args.value false false
    c.if-has_range.ensures (free ∙ sym c.if-is_free.ensures) ∙ ap (λ (infinite : Bool).
    those_of ((false, DuplicateRange) ∷ (false, RangeOnFree) ∷ (infinite, InfiniteValue) ∷ []))
    (sym c.if-is_infinite_size.ensures)))

pub returns-clause-answer : goal.returns-clause-answer
returns-clause-answer c = let t = c.args.self.now in
    let free = ap (λ (p : RowRef). is_objective_ref p || row_satisfies t p (λ o. false)
    (λ row. is_free_definition row.definition)) c.in-Row.is in
    sym (ap first_refusal (range_stated None t c.each_name_occurs_once.ensures c.requires c.in-Some.place
    c.args.row.now c.in-Some.ensures.place c.in-Some.ensures.found c.args.value false false
    c.if-has_range.ensures (free ∙ sym c.if-is_free.ensures) ∙ ap (λ (infinite : Bool).
    those_of ((false, DuplicateRange) ∷ (false, RangeOnFree) ∷ (infinite, InfiniteValue) ∷ []))
    (sym c.if-is_infinite_size.ensures)))

pub returns-clause-typed : goal.returns-clause-typed
returns-clause-typed c = let t = c.args.self.now in ap (λ (p : RowRef). has_limits t p) (sym c.in-Row.is)
    ∙ typed_place t (λ o. false) (λ row. is_some row.range) c.in-Some.place (sym c.if-has_range.ensures)
