use Rattle.std.{proofs.Common.{sym, ap, true, false}, specs.Prelude.None}
use Rattle.mpslp_builder.{specs.Answer.first_refusal, proofs.ReadingLemmas.integer_stated}
use Rattle.mpslp_builder.proofs.tables.Tables.integer_target.Goals as goal

pub returns-then-is_semi-clause-answer : goal.returns-then-is_semi-clause-answer
returns-then-is_semi-clause-answer c = sym (ap first_refusal (integer_stated None c.args.self.now c.each_name_occurs_once.ensures
    c.in-Some.number c.args.column.now c.in-Some.ensures.number c.in-Some.ensures.found true c.if-is_semi.ensures))

pub returns-clause-answer : goal.returns-clause-answer
returns-clause-answer c = sym (ap first_refusal (integer_stated None c.args.self.now c.each_name_occurs_once.ensures
    c.in-Some.number c.args.column.now c.in-Some.ensures.number c.in-Some.ensures.found false c.if-is_semi.ensures))
