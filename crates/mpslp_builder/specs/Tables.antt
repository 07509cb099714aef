-- The draft that tables of numbered names represent.
use Rattle.std.specs.Prelude.{◌≡◌, ◌<◌, ℕ, true, List, [], ◌∷◌, ◌++◌, Option, length}
use Rattle.std.specs.Option.{option_map, option_map_or}
use Rattle.mpslp_decimal.specs.Decimal.{Number}
use Rattle.mpslp_types.specs.Name.{bytes_cmp}
use Rattle.mpslp_types.specs.declared.kinds.Sense.{Sense}
use Rattle.mpslp_model_core.specs.Model.{key_cmp}
use Rattle.mpslp_model_core.specs.Numbered.{sorted_of, each_part, given_parts, name_of, all_cells, all_named, IsInjective}
use Rattle.mpslp_builder.specs.Declaration.{Draft}
pub use Rattle.mpslp_builder_parts.specs.Parts.{definition_of, rhs_of, range_of, no_part, cells_of, lower_of, upper_of, as_part, mark_of, integer_of, binary_of, semi_of}
use Rattle.mpslp_builder_parts.specs.declared.parts.ObjectiveParts.{ObjectiveParts}
use Rattle.mpslp_builder_parts.specs.Parts.{ColumnParts}
use Rattle.mpslp_builder_parts.specs.RowParts.{RowParts}
use Rattle.mpslp_builder.specs.declared.tables.Tables.{Tables}

-- ---- the draft

abbrev pub name_of_objective : Option ObjectiveParts → Option (List ℕ)
name_of_objective objective = option_map (λ o. o.name) objective

-- the right-hand side of the objective, which comes before those of the rows
abbrev pub objective_rhs : Option ObjectiveParts → List (List ℕ × Number)
objective_rhs objective = option_map_or (λ o. option_map_or (λ value. (o.name, value) ∷ []) o.rhs []) objective []

-- the name of the row, or of the objective, with a number
abbrev pub name_of_row_key : Option ObjectiveParts → List (List ℕ × RowParts) → ℕ → Option (List ℕ)
name_of_row_key objective rows = name_of (name_of_objective objective) rows

abbrev pub cells_by_name : List (List ℕ × ColumnParts) → List (List ℕ × List (ℕ × Number))
cells_by_name columns = each_part cells_of columns

-- what has been declared
abbrev pub draft_from : Option Sense → Option Number → Option ObjectiveParts → List (List ℕ × RowParts) → List (List ℕ × ColumnParts) → Draft
draft_from sense constant objective rows columns = record {
  sense = sense;
  objective = name_of_objective objective;
  constant = constant;
  rows = sorted_of bytes_cmp (each_part definition_of rows);
  rhs_values = sorted_of bytes_cmp (objective_rhs objective ++ given_parts rhs_of rows);
  ranges = sorted_of bytes_cmp (given_parts range_of rows);
  columns = sorted_of bytes_cmp (each_part no_part columns);
  coefficients = sorted_of key_cmp (all_cells (name_of_row_key objective rows) (cells_by_name columns));
  lowers = sorted_of bytes_cmp (given_parts lower_of columns);
  uppers = sorted_of bytes_cmp (given_parts upper_of columns);
  marked = sorted_of bytes_cmp (given_parts mark_of columns);
  integers = sorted_of bytes_cmp (given_parts integer_of columns);
  binaries = sorted_of bytes_cmp (given_parts binary_of columns);
  semis = sorted_of bytes_cmp (given_parts semi_of columns);
}

abbrev pub draft : Option Sense → Option Number → Tables → Draft
draft sense constant t = draft_from sense constant t.objective t.rows.entries t.columns.entries

-- ---- properties of all tables of a builder

-- The rows fit numbers of 32 bits, different numbers have different names, and the number of each coefficient has a name.
pub record AreNumbered (objective : Option ObjectiveParts) (rows : List (List ℕ × RowParts)) (columns : List (List ℕ × ColumnParts)) : Type 0 where
  pub few : length rows < 4294967295
  pub apart : IsInjective (name_of_row_key objective rows)
  pub named : all_named (name_of_row_key objective rows) (cells_by_name columns) ≡ true

abbrev pub IsNumbered : Tables → Type 0
IsNumbered t = AreNumbered t.objective t.rows.entries t.columns.entries
