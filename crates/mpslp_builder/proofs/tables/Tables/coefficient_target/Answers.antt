use Rattle.std.{proofs.Common.{◌≡◌, sym, ap, ◌∙◌, true, false}, specs.Prelude.{None, Some}}
use Rattle.mpslp_builder.{specs.{Answer.first_refusal, Calls.row_name}, proofs.ReadingLemmas.cell_stated}
use Rattle.mpslp_builder.proofs.tables.Tables.coefficient_target.Goals as goal

pub returns-then-has_cell-clause-answer : goal.returns-then-has_cell-clause-answer
returns-then-has_cell-clause-answer c = let t = c.args.self.now in
    let row : row_name t c.number-row.result ≡ Some c.args.row.now =
    ap (row_name t) c.number-row.ensures ∙ c.in-Some.ensures.place in
    sym (ap first_refusal (cell_stated None t c.each_name_occurs_once.ensures c.in-Some-column_number.column c.args.column.now
    c.in-Some-column_number.ensures.number c.in-Some-column_number.ensures.found c.number-row.result c.args.row.now true
    c.requires row c.in-Some.ensures.found c.if-has_cell.ensures))

pub returns-clause-answer : goal.returns-clause-answer
returns-clause-answer c = let t = c.args.self.now in
    let row : row_name t c.number-row.result ≡ Some c.args.row.now =
    ap (row_name t) c.number-row.ensures ∙ c.in-Some.ensures.place in
    sym (ap first_refusal (cell_stated None t c.each_name_occurs_once.ensures c.in-Some-column_number.column c.args.column.now
    c.in-Some-column_number.ensures.number c.in-Some-column_number.ensures.found c.number-row.result c.args.row.now
    false c.requires row c.in-Some.ensures.found c.if-has_cell.ensures))
