-- The columns by number, in the order of their declarations.
use Rattle.std.specs.Prelude.{◌≡◌, ℕ, Bool, true, false, List, [], ◌∷◌, ◌++◌, Option, Some, None, Result, Ok, Err, is_some, length, slice_get}
use Rattle.std.specs.Option.{option_map, option_map_or}
use Rattle.std.specs.Ordering.{nat_cmp}
use Rattle.std.specs.FinMap.{find}
use Rattle.std.specs.declared.alloc.AllocError.{AllocError}
use Rattle.indexmap.specs.IndexMap.{set_value_at}
use Rattle.mpslp_decimal.specs.Decimal.{Number}
use Rattle.mpslp_types.specs.Name.{bytes_cmp}
use Rattle.mpslp_model_core.specs.Numbered.{each_part}
use Rattle.mpslp_builder_parts.specs.Parts.{ColumnParts, cells_of, new_column, no_part, with_cell}
use Rattle.mpslp_builder_parts.specs.declared.column_table.Inserted.{Inserted}
use Rattle.mpslp_builder_parts.specs.declared.column_table.Inserted.TheVariants.{New, There}

pub record ColumnEntries : Type 0 where
  pub entries : List (List ℕ × ColumnParts)

-- the name of the column of a number
abbrev pub name_in : ColumnEntries → ℕ → Option (List ℕ)
name_in columns i = option_map (λ e. e.0) (slice_get columns.entries i)

-- its coefficients
abbrev pub cells_in_column : ColumnEntries → ℕ → List (ℕ × Number)
cells_in_column columns i = option_map_or (λ e. cells_of e.1) (slice_get columns.entries i) []

-- the number of the column, new or not
abbrev pub number_inserted : Inserted → ℕ
number_inserted (New number) = number
number_inserted (There number) = number

-- a new column is added, and has this number, or the column of this name has it and nothing changes
abbrev pub Inserts : ColumnEntries → List ℕ → Result Inserted AllocError → ColumnEntries → Type 0
Inserts old name (Ok (New number)) new =
    (find bytes_cmp name (each_part no_part old.entries) ≡ None) × (number ≡ length old.entries) × (new.entries ≡ old.entries ++ (name, new_column) ∷ [])
Inserts old name (Ok (There number)) new =
    (is_some (find bytes_cmp name (each_part no_part old.entries)) ≡ true) × (name_in old number ≡ Some name) × (new.entries ≡ old.entries)
Inserts old name (Err _) new = new.entries ≡ old.entries

-- only the column of a number is changed, in this way
pub record IsChanged (i : ℕ) (change : ColumnParts → ColumnParts) (old new : ColumnEntries) : Type 0 where
  pub key : List ℕ
  pub parts : ColumnParts
  pub was : slice_get old.entries i ≡ Some (key, parts)
  pub written : new.entries ≡ set_value_at old.entries i (change parts)

-- a coefficient is put where there was none, or nothing changes
abbrev pub PutsAtOnce : ColumnEntries → ℕ → ℕ → Number → Bool → ColumnEntries → Type 0
PutsAtOnce old i row value true new = (find nat_cmp row (cells_in_column old i) ≡ None) × IsChanged i (with_cell row value) old new
PutsAtOnce old i row value false new = new.entries ≡ old.entries

-- a coefficient is put, or the column of a number has one in the row and nothing changes
abbrev pub PutsIfFree : ColumnEntries → ℕ → ℕ → Number → Result Bool AllocError → ColumnEntries → Type 0
PutsIfFree old i row value (Ok true) new = (find nat_cmp row (cells_in_column old i) ≡ None) × IsChanged i (with_cell row value) old new
PutsIfFree old i row value (Ok false) new = (is_some (find nat_cmp row (cells_in_column old i)) ≡ true) × (new.entries ≡ old.entries)
PutsIfFree old i row value (Err _) new = new.entries ≡ old.entries
