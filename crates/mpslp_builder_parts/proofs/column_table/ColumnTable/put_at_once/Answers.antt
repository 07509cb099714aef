use Rattle.std.proofs.Common.{refl, ap, subst, sym, ◌∙◌, ℕ}
use Rattle.std.specs.{BTreeSet.BTreeSet, FinMap.find, Ordering.nat_cmp, Prelude.{Option, is_some}}
use Rattle.mpslp_builder_parts.specs.{ColumnTable.{ColumnEntries, IsChanged, cells_in_column}, KnownPairs.IsPutIfSome}
use Rattle.mpslp_builder_parts.specs.{Parts.with_cell, StoredColumns.{parts_of, entries_of}}
use Rattle.mpslp_builder_parts.proofs.{ColumnLemmas.{none_there, place_within}, TableLemmas.{known_put, column_put, has_in_column}}
use Rattle.mpslp_builder_parts.proofs.column_table.ColumnTable.put_at_once.Goals as goal

-- there is no set of pairs into which this one would have to be put
no_set : (c : goal.After-note_put) → IsPutIfSome c.args.column c.args.row c.self.inside.known.pairs c.self.inside.known.pairs
no_set c = let ready = c.if-not-is_ready.ensures refl in
    subst (λ (set : Option (BTreeSet ℕ)). IsPutIfSome c.args.column c.args.row set set) (sym ready.pairs) tt

pub note_put-requires-clause-there : goal.note_put-requires-clause-there
note_put-requires-clause-there c = place_within (parts_of c.self.inside.log) c.self.inside.columns.entries c.args.self.now
    c.self.view_is c.args.column c.requires

pub invariant_of-self-2 : goal.invariant_of-self-2
invariant_of-self-2 c = let ready = c.if-not-is_ready.ensures refl in
    known_put c.self.inside.columns.entries c.note_put.new.columns.entries c.self.inside.log
    c.push_within_room.new.self c.self.inside.known c.self.inside.known c.note_put.new.known c.args.column c.args.row
    c.last_of-last.result c.in-Some.place c.args.value c.self.invariant refl refl refl (no_set c)
    c.last_of-last.ensures ready.absent c.in-Some.ensures.place c.in-Some.ensures.cells c.in-Some.ensures.earlier
    c.note_put.ensures.here c.note_put.ensures.others c.note_put.ensures.open_row
    c.note_put.ensures.open_column
    c.note_put.ensures.pairs c.note_put.ensures.last

pub returns : goal.returns
returns c = let ready = c.if-not-is_ready.ensures refl in (
  none_there _ (sym (sym ready.absent ∙ has_in_column c.self.inside.log c.self.inside.columns.entries
      c.args.column c.args.row
      ∙ ap (λ (columns : ColumnEntries). is_some (find nat_cmp c.args.row (cells_in_column columns c.args.column)))
      c.self.view_is)),
  subst (λ (columns : ColumnEntries). IsChanged c.args.column (with_cell c.args.row c.args.value) columns
      (entries_of c.push_within_room.new.self c.note_put.new.columns.entries)) c.self.view_is
      (column_put c.self.inside.columns.entries c.note_put.new.columns.entries c.self.inside.log
      c.push_within_room.new.self c.self.inside.known c.self.inside.known c.note_put.new.known c.args.column c.args.row
      c.last_of-last.result c.in-Some.place c.args.value c.self.invariant refl refl refl (no_set c)
      c.last_of-last.ensures ready.absent c.in-Some.ensures.place c.in-Some.ensures.cells c.in-Some.ensures.earlier
      c.note_put.ensures.here c.note_put.ensures.others c.note_put.ensures.open_row
      c.note_put.ensures.open_column
      c.note_put.ensures.pairs c.note_put.ensures.last),
)
