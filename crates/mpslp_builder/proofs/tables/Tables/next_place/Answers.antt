use Rattle.std.{proofs.Common.{sym, ap, ◌∙◌, Bool}, specs.Prelude.◌&&◌}
use Rattle.mpslp_builder.{specs.Calls.column_satisfies, proofs.ReadingLemmas.{rows_known, mark_allowed, places_free}}
use Rattle.mpslp_builder.proofs.tables.Tables.next_place.Goals as goal

pub returns-then-is_semi-clause-found : goal.returns-then-is_semi-clause-found
returns-then-is_semi-clause-found c = let t = c.args.self.now in
    λ line. sym (mark_allowed line.sense line.constant t c.args.is_marked c.args.column.now c.args.entries.now line.free
    c.each_name_occurs_once.ensures c.in-Some.column c.in-Some.ensures.number)
    ∙ ap (λ (b : Bool). b && column_satisfies t c.in-Some.column (λ parts. parts.semi)) c.if-is_marked.true
    ∙ sym c.if-is_semi.ensures

pub returns-in_default-row_numbers-clause-found : goal.returns-in_default-row_numbers-clause-found
returns-in_default-row_numbers-clause-found c = λ line. c.in_default-row_numbers.ensures.found
    (rows_known line.sense line.constant c.args.self.now c.args.is_marked c.args.column.now c.args.entries.now line.free)

pub returns-then-not-are_free-clause-found : goal.returns-then-not-are_free-clause-found
returns-then-not-are_free-clause-found c = let rows = c.in-Some-row_numbers in λ line. c.if-not-are_free.ensures.found
    (places_free line.sense line.constant c.args.self.now c.args.is_marked c.args.column.now c.args.entries.now line.free
    c.each_name_occurs_once.ensures c.in-Some.column c.in-Some.ensures.number c.requires rows.rows rows.ensures.rows
    rows.ensures.single)
