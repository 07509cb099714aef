use Rattle.std.{proofs.Common.{sym, ap, true, false, refl}, specs.{Prelude.{None, Bool, ◌||◌}, Option.option_map_or}}
use Rattle.mpslp_types.specs.Limit.{is_plus_infinite, is_minus_infinite}
use Rattle.mpslp_builder.{specs.Answer.first_refusal, proofs.ReadingLemmas.sides_stated}
use Rattle.mpslp_builder.proofs.tables.Tables.bounds_target.Goals as goal

pub returns-then-has_side-clause-answer : goal.returns-then-has_side-clause-answer
returns-then-has_side-clause-answer c =
    let infinite : Bool = option_map_or is_plus_infinite c.args.lower.now false || option_map_or is_minus_infinite
    c.args.upper.now false in
    sym (ap first_refusal (sides_stated None c.args.self.now c.each_name_occurs_once.ensures c.in-Some.number c.args.column.now
    c.in-Some.ensures.number c.in-Some.ensures.found c.args.lower.now c.args.upper.now true infinite c.if-has_side.ensures refl))

pub returns-then-have_infinite_side-clause-answer : goal.returns-then-have_infinite_side-clause-answer
returns-then-have_infinite_side-clause-answer c = sym (ap first_refusal
    (sides_stated None c.args.self.now c.each_name_occurs_once.ensures c.in-Some.number c.args.column.now c.in-Some.ensures.number
    c.in-Some.ensures.found c.args.lower.now c.args.upper.now false true c.if-has_side.ensures c.if-have_infinite_side.ensures))

pub returns-clause-answer : goal.returns-clause-answer
returns-clause-answer c = sym (ap first_refusal (sides_stated None c.args.self.now c.each_name_occurs_once.ensures
    c.in-Some.number c.args.column.now c.in-Some.ensures.number c.in-Some.ensures.found c.args.lower.now
    c.args.upper.now false false c.if-has_side.ensures c.if-have_infinite_side.ensures))
