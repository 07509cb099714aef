use Rattle.std.{proofs.Common.{sym, ap, ◌∙◌, true, false, Bool}, specs.Prelude.{is_some, ◌||◌}}
use Rattle.mpslp_model_core.specs.Limits.{is_definition_by_limits}
use Rattle.mpslp_builder.{specs.{Answer.first_refusal, Calls.row_satisfies}, proofs.ReadingLemmas.rhs_stated}
use Rattle.mpslp_builder.proofs.tables.Tables.rhs_target.Goals as goal

pub returns-then-has_rhs-clause-answer : goal.returns-then-has_rhs-clause-answer
returns-then-has_rhs-clause-answer c =
    sym (ap first_refusal (rhs_stated c.args.constant.now c.args.self.now c.each_name_occurs_once.ensures
    c.requires c.in-Some.place c.args.row.now c.in-Some.ensures.place c.in-Some.ensures.found true (c.if-has_rhs.ensures ∙ ap
    (λ (b : Bool). row_satisfies c.args.self.now c.in-Some.place (λ o. is_some o.rhs || b)
    (λ row. is_some row.rhs || is_definition_by_limits row.definition)) c.is_some.ensures)))

pub returns-clause-answer : goal.returns-clause-answer
returns-clause-answer c = sym (ap first_refusal
    (rhs_stated c.args.constant.now c.args.self.now c.each_name_occurs_once.ensures c.requires c.in-Some.place
    c.args.row.now c.in-Some.ensures.place c.in-Some.ensures.found false
    (c.if-has_rhs.ensures ∙ ap (λ (b : Bool). row_satisfies c.args.self.now c.in-Some.place
    (λ o. is_some o.rhs || b) (λ row. is_some row.rhs || is_definition_by_limits row.definition)) c.is_some.ensures)))
