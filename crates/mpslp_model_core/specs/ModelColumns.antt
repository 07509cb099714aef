-- The columns of a model, with the coefficients of all of them in one vector.
use Rattle.std.specs.Prelude.{◌≤◌, ℕ, List, slice_range}
use Rattle.mpslp_decimal.specs.Decimal.{Number}
use Rattle.mpslp_model_core.specs.Model.{Column}
use Rattle.mpslp_model_core.specs.Numbered.{each_part}
use Rattle.mpslp_model_core.specs.declared.model_columns.ColumnSpan.{ColumnSpan}

-- a column: its type and bounds, and its coefficients by row number
pub record ModelColumn : Type 0 where
  pub bounds : Column
  pub cells : List (ℕ × Number)

-- the coefficients of the column are within the vector of so many
pub record IsWithin (count : ℕ) (span : ColumnSpan) : Type 0 where
  pub order : span.start ≤ span.end
  pub room : span.end ≤ count

-- its type and bounds
abbrev pub span_bounds : ColumnSpan → Column
span_bounds span = span.bounds

-- the coefficients of the column, from the vector of all
abbrev pub span_cells : List (ℕ × Number) → ColumnSpan → List (ℕ × Number)
span_cells cells span = slice_range cells span.start span.end

-- the column, from the vector of all coefficients
abbrev pub column_in : List (ℕ × Number) → ColumnSpan → ModelColumn
column_in cells span = record { bounds = span.bounds; cells = span_cells cells span }

-- all columns, by their names
abbrev pub columns_of : List (List ℕ × ColumnSpan) → List (ℕ × Number) → List (List ℕ × ModelColumn)
columns_of spans cells = each_part (column_in cells) spans
