use Rattle.std.proofs.Common.{refl, ap, subst, sym, ◌∙◌}
use Rattle.std.specs.{FinMap.find, Ordering.nat_cmp, Prelude.{is_some}}
use Rattle.mpslp_builder_parts.specs.{ColumnTable.{ColumnEntries, IsChanged, cells_in_column}}
use Rattle.mpslp_builder_parts.specs.{Parts.with_cell, StoredColumns.{parts_of, entries_of}}
use Rattle.mpslp_builder_parts.proofs.{ColumnLemmas.{none_there, place_within}, TableLemmas.{known_put, column_put, has_in_column}}
use Rattle.mpslp_builder_parts.proofs.column_table.ColumnTable.put_any_if_free.Goals as goal

pub returns-then-has_cell : goal.returns-then-has_cell
returns-then-has_cell c = (
  sym (c.if-has_cell.ensures ∙ has_in_column c.self.inside.log c.self.inside.columns.entries c.args.column c.args.row
      ∙ ap (λ (columns : ColumnEntries). is_some (find nat_cmp c.args.row (cells_in_column columns c.args.column)))
      c.self.view_is),
  refl,
)

pub note_put-requires-clause-there : goal.note_put-requires-clause-there
note_put-requires-clause-there c = place_within (parts_of c.self.inside.log) c.self.inside.columns.entries c.args.self.now
    c.self.view_is c.args.column c.requires

pub invariant_of-self-2 : goal.invariant_of-self-2
invariant_of-self-2 c = known_put c.self.inside.columns.entries c.note_put.new.columns.entries c.self.inside.log
    c.push.new.self c.prepare.new.known c.put_known.new.known c.note_put.new.known c.args.column c.args.row
    c.last_of-last.result c.in-Ok.place c.args.value c.in_ok-prepare.ensures.kept c.in_ok-put_known.ensures.stamps
    c.in_ok-put_known.ensures.open_row c.in_ok-put_known.ensures.open_column c.in_ok-put_known.ensures.ok
    c.last_of-last.ensures (sym c.if-has_cell.ensures) c.in-Ok.ensures.place c.in-Ok.ensures.cells
    c.in-Ok.ensures.earlier c.note_put.ensures.here c.note_put.ensures.others c.note_put.ensures.open_row
    c.note_put.ensures.open_column c.note_put.ensures.pairs c.note_put.ensures.last

pub returns : goal.returns
returns c = (
  none_there _ (sym (c.if-has_cell.ensures ∙ has_in_column c.self.inside.log c.self.inside.columns.entries
      c.args.column c.args.row
      ∙ ap (λ (columns : ColumnEntries). is_some (find nat_cmp c.args.row (cells_in_column columns c.args.column)))
      c.self.view_is)),
  subst (λ (columns : ColumnEntries). IsChanged c.args.column (with_cell c.args.row c.args.value) columns
      (entries_of c.push.new.self c.note_put.new.columns.entries)) c.self.view_is
      (column_put c.self.inside.columns.entries c.note_put.new.columns.entries c.self.inside.log c.push.new.self
      c.prepare.new.known c.put_known.new.known c.note_put.new.known c.args.column c.args.row c.last_of-last.result
      c.in-Ok.place c.args.value c.in_ok-prepare.ensures.kept c.in_ok-put_known.ensures.stamps
      c.in_ok-put_known.ensures.open_row c.in_ok-put_known.ensures.open_column c.in_ok-put_known.ensures.ok
      c.last_of-last.ensures (sym c.if-has_cell.ensures) c.in-Ok.ensures.place c.in-Ok.ensures.cells
      c.in-Ok.ensures.earlier c.note_put.ensures.here c.note_put.ensures.others c.note_put.ensures.open_row
      c.note_put.ensures.open_column c.note_put.ensures.pairs c.note_put.ensures.last),
)
