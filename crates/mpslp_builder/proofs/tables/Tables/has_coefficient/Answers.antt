use Rattle.std.{proofs.Common.{◌≡◌, sym, ap, ◌∙◌}, specs.Prelude.{Some, None}}
use Rattle.mpslp_builder.{specs.Calls.row_name, proofs.ReadingLemmas.{entry_at, cell_at}}
use Rattle.mpslp_builder.proofs.tables.Tables.has_coefficient.Goals as goal

pub returns : goal.returns
returns c = let t = c.args.self.now in
    let row : row_name t c.number.result ≡ Some c.args.row.now =
    ap (row_name t) c.number.ensures ∙ c.in-Some-row_ref.ensures.place in
    c.has_cell.ensures ∙ sym (cell_at None None t c.each_name_occurs_once.ensures c.in-Some.number c.args.column.now (entry_at
    t.columns.entries c.in-Some.number c.args.column.now c.in-Some.ensures.number) c.number.result c.args.row.now
    c.requires.numbered row)
