-- Stored columns: their names, types and bounds, and their coefficients by row number.
use Rattle.std.specs.Prelude.{ℕ, zero, suc, Bool, true, false, List, [], ◌∷◌, ◌+◌, length, map, filter}
use Rattle.mpslp_decimal.specs.Decimal.{Number}
use Rattle.mpslp_model_core.specs.Model.{Column}
use Rattle.mpslp_model_core.specs.ModelColumns.{ModelColumn}

-- whether it is the number of a row, and not of the objective
abbrev pub is_row_number : ℕ → Bool
is_row_number zero = false
is_row_number (suc n) = true

-- the coefficients without that of the objective
abbrev pub row_cells : List (ℕ × Number) → List (ℕ × Number)
row_cells es = filter (λ e. is_row_number e.0) es

abbrev pub count_row_cells : List (List ℕ × ModelColumn) → ℕ
count_row_cells [] = 0
count_row_cells (column ∷ columns) = length (row_cells column.1.cells) + count_row_cells columns

-- the name of a column with its type, bounds and coefficients
abbrev pub column_entry : List ℕ × ModelColumn → List ℕ × (Column × List (ℕ × Number))
column_entry column = (column.0, (column.1.bounds, column.1.cells))

abbrev pub column_entries : List (List ℕ × ModelColumn) → List (List ℕ × (Column × List (ℕ × Number)))
column_entries columns = map column_entry columns
