-- Columns in their form in the code.
use Rattle.std.specs.Prelude.{◌≡◌, ◌≤◌, ◌<◌, ℕ, false, List, None, Some, slice_get, length}
use Rattle.std.specs.Option.{option_map_or}
use Rattle.std.specs.Ordering.{nat_cmp}
use Rattle.indexmap.specs.IndexMap.{set_value_at}
use Rattle.mpslp_model_core.specs.Numbered.{each_part, sorted_of, IsOnceBy}
use Rattle.mpslp_builder_parts.specs.Parts.{ColumnParts, parts_with}
use Rattle.mpslp_builder_parts.specs.ColumnTable.{ColumnEntries}
use Rattle.mpslp_builder_parts.specs.CoefficientLog.{LogEntries, chain}
use Rattle.mpslp_builder_parts.specs.KnownPairs.{AreKnown, has_pair}
use Rattle.mpslp_builder_parts.specs.declared.parts.ColumnDefinition.{ColumnDefinition}
use Rattle.mpslp_builder_parts.specs.declared.known_pairs.StoredColumn.{StoredColumn}
use Rattle.mpslp_builder_parts.specs.declared.known_pairs.KnownPairs.{KnownPairs}

abbrev pub parts_of : LogEntries → StoredColumn → ColumnParts
parts_of log column = parts_with (sorted_of nat_cmp (chain log column.last)) column.definition

abbrev pub definition_of_stored : StoredColumn → ColumnDefinition
definition_of_stored column = column.definition

abbrev pub entries_of : LogEntries → List (List ℕ × StoredColumn) → ColumnEntries
entries_of log columns = record { entries = each_part (parts_of log) columns }

-- the place of the last coefficient of the column of a number
abbrev pub last_of : List (List ℕ × StoredColumn) → ℕ → ℕ
last_of columns i = option_map_or (λ e. e.1.last) (slice_get columns i) 0

-- its row
abbrev pub last_row_of : List (List ℕ × StoredColumn) → ℕ → ℕ
last_row_of columns i = option_map_or (λ e. e.1.last_row) (slice_get columns i) 0

abbrev pub IsKnown : List (List ℕ × StoredColumn) → LogEntries → KnownPairs → Type 0
IsKnown columns log known = AreKnown log (last_of columns) (last_row_of columns) known.stamps.items known.open_row known.open_column known.pairs

-- the place and the row of the last coefficient of the column of a number are these, and nothing else is changed
pub record HasLast (i place row : ℕ) (old new : List (List ℕ × StoredColumn)) : Type 0 where
  pub key : List ℕ
  pub stored : StoredColumn
  pub was : slice_get old i ≡ Some (key, stored)
  pub written : new ≡ set_value_at old i (record stored { last = place; last_row = row })

-- its coefficients are in the log, each of another row
pub record IsWhole (log : LogEntries) (column : StoredColumn) : Type 0 where
  pub place : column.last ≤ length log.cells
  pub once : IsOnceBy nat_cmp (chain log column.last)

-- there is no coefficient of the column and the row, and one can be noted where there is no set of pairs
pub record IsReady (columns : List (List ℕ × StoredColumn)) (log : LogEntries) (known : KnownPairs) (column row : ℕ) : Type 0 where
  pub absent : has_pair log (last_of columns) column row ≡ false
  pub few : column < 4294967295
  pub room : row < length known.stamps.items
  pub pairs : known.pairs ≡ None
