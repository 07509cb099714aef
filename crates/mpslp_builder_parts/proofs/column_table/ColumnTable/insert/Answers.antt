use Rattle.std.proofs.Common.{◌∙◌, [], refl, sym, ap, subst}
use Rattle.std.specs.{Prelude.{is_some, slice_get, List, ℕ}, Option.option_map}
use Rattle.mpslp_types.specs.Name.{same_bytes}
use Rattle.indexmap.{specs.IndexMap.set_value_at, proofs.CallerLemmas.insert_entry-new}
use Rattle.mpslp_model_core.specs.Numbered.{each_part}
use Rattle.mpslp_builder_parts.specs.{ColumnTable.{ColumnEntries, name_in}, Parts.{new_column, parts_with}}
use Rattle.mpslp_builder_parts.specs.{StoredColumns.{parts_of, IsKnown}, declared.known_pairs.StoredColumn.StoredColumn}
use Rattle.mpslp_builder_parts.proofs.ColumnLemmas.{added, found_part, none_there, name_of_part, name_back, value_back}
use Rattle.mpslp_builder_parts.proofs.TableLemmas.{known_added}
use Rattle.mpslp_builder_parts.proofs.column_table.ColumnTable.insert.Goals as goal

pub returns-in_default : goal.returns-in_default
returns-in_default c =
    let es = c.self.inside.columns.entries in
    let f = parts_of c.self.inside.log in
    let stored : StoredColumn = record { last = 0; last_row = 0; definition = c.new.result } in
    let absent = sym c.in_ok-number.ensures.old ∙ c.in_default.is in (
      none_there _ (sym (found_part f es c.args.self.now c.self.view_is c.args.name) ∙ ap is_some absent),
      c.len-count.ensures.len,
      added f es c.args.self.now c.self.view_is c.insert_full.new.self.entries c.args.name stored (c.in_ok-number.ensures.entries
          ∙ insert_entry-new (λ x y. same_bytes x y) c.self.inside.columns c.args.name stored absent) new_column
          (λ j. parts_with [] (c.new.ensures j)),
    )

pub invariant_of-self-in_default : goal.invariant_of-self-in_default
invariant_of-self-in_default c = let stored : StoredColumn = record { last = 0; last_row = 0; definition = c.new.result } in
    known_added c.self.inside.columns.entries c.insert_full.new.self.entries c.args.name stored c.self.inside.log
    c.self.inside.known (c.in_ok-number.ensures.entries ∙ insert_entry-new (λ x y. same_bytes x y)
    c.self.inside.columns c.args.name stored (sym c.in_ok-number.ensures.old ∙ c.in_default.is)) refl refl
    c.self.invariant

pub returns : goal.returns
returns c =
    let es = c.self.inside.columns.entries in
    let f = parts_of c.self.inside.log in
    let n = c.in_ok-number.number in
    let stored : StoredColumn = record { last = 0; last_row = 0; definition = c.new.result } in
    let there = sym c.in-Some.is ∙ c.in_ok-number.ensures.old in (
      sym (found_part f es c.args.self.now c.self.view_is c.args.name) ∙ ap is_some (sym there),
      ap (λ (columns : ColumnEntries). name_in columns n) (sym c.self.view_is) ∙ sym (name_of_part f es n)
          ∙ ap (λ (i : ℕ). option_map (λ (e : List ℕ × StoredColumn). e.0) (slice_get es i))
          c.in_ok-number.ensures.index ∙ name_back c.args.name c.in-Some.old es there,
      ap (each_part f) ((λ i. set_value_at (c.in_ok-number.ensures.entries i) (c.in_ok-number.ensures.index i) c.in-Some.old)
          ∙ value_back c.args.name stored c.in-Some.old es there) ∙ ap (λ (columns : ColumnEntries). columns.entries)
          c.self.view_is,
    )

pub invariant_of-self-2 : goal.invariant_of-self-2
invariant_of-self-2 c = let es = c.self.inside.columns.entries in
    let stored : StoredColumn = record { last = 0; last_row = 0; definition = c.new.result } in
    subst (λ (cs : List (List ℕ × StoredColumn)). IsKnown cs c.self.inside.log c.self.inside.known)
    (sym ((λ i. set_value_at (c.in_ok-number.ensures.entries i) (c.in_ok-number.ensures.index i) c.in-Some.old)
    ∙ value_back c.args.name stored c.in-Some.old es (sym c.in-Some.is ∙ c.in_ok-number.ensures.old))) c.self.invariant
