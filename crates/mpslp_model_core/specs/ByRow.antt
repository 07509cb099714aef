-- Which columns have a coefficient in each row, and where.
use Rattle.std.specs.Prelude.{◌≡◌, ◌≤◌, ◌<◌, ◌+◌, ℕ, zero, suc, Bool, List, [], ◌∷◌, IfSome, Option, Some, length, filter, map, is_some, slice_get, slice_index, slice_range, if◌then◌else◌}
use Rattle.std.specs.List.{All, range_with_len}
use Rattle.std.specs.Option.{option_map, option_map_or}
use Rattle.std.specs.Ordering.{eq_by_cmp, nat_cmp}
use Rattle.std.specs.FinMap.{find}
use Rattle.mpslp_decimal.specs.Decimal.{Number}
use Rattle.mpslp_model_core.specs.ModelParts.{AreModelParts}
use Rattle.mpslp_model_core.specs.RowNames.{AreNames}
use Rattle.mpslp_model_core.specs.declared.by_row.RowElement.{RowElement}
use Rattle.mpslp_model_core.specs.declared.by_row.RowLists.{RowLists}
use Rattle.mpslp_model_core.specs.ModelColumns.{ModelColumn}
use Rattle.mpslp_model_core.specs.declared.model.ModelParts.{ModelParts}
use Rattle.mpslp_model_core.specs.declared.row_names.RowNames.{RowNames}

-- the list of the row at an index
abbrev pub list_at : RowLists → ℕ → List RowElement
list_at lists i = slice_range lists.elements.items (slice_index lists.starts.items i) (slice_index lists.starts.items (suc i))

-- there is a row at this index, and its list is within the vector
pub record HasList (lists : RowLists) (i : ℕ) : Type 0 where
  pub row : suc i < length lists.starts.items
  pub order : slice_index lists.starts.items i ≤ slice_index lists.starts.items (suc i)
  pub room : slice_index lists.starts.items (suc i) ≤ length lists.elements.items

-- the column, if it has a coefficient
abbrev pub column_if : Bool → ℕ → List ℕ
column_if has column = if has then column ∷ [] else []

-- a coefficient of this number adds one to the count at it, unless it is the objective's
abbrev pub HasCounted : ℕ → List ℕ → List ℕ → Type 0
HasCounted number old new = (i : ℕ) → slice_index new (suc i) ≡ slice_index old (suc i) + (if eq_by_cmp nat_cmp (suc i) number then 1 else 0)

-- each number is 0, the objective's, or that of one of so many rows
abbrev pub AreWithin : ℕ → List (ℕ × Number) → Type 0
AreWithin rows cells = All (λ (cell : ℕ × Number). cell.0 ≤ rows) cells

-- whether there is a coefficient of this number
abbrev pub has_number : ℕ → List (ℕ × Number) → Bool
has_number n cells = is_some (find nat_cmp n cells)

-- the coefficients of the column of a number
abbrev pub cells_of : List (List ℕ × ModelColumn) → ℕ → List (ℕ × Number)
cells_of columns j = option_map_or (λ (column : List ℕ × ModelColumn). column.1.cells) (slice_get columns j) []

-- which of the first columns have a coefficient of this number
abbrev pub columns_with : List (List ℕ × ModelColumn) → ℕ → ℕ → List ℕ
columns_with columns n count = filter (λ j. has_number n (cells_of columns j)) (range_with_len 0 count)

-- for each row the number of its coefficients, and 0 for the objective
pub record AreCounts (columns : List (List ℕ × ModelColumn)) (rows : ℕ) (counts : List ℕ) : Type 0 where
  pub len : length counts ≡ suc rows
  pub objective : slice_index counts 0 ≡ 0
  pub own : (i : ℕ) → i < rows → slice_index counts (suc i) ≡ length (columns_with columns (suc i) (length columns))

-- where the list of a row starts: after those of the rows before it
abbrev pub start_of : List (List ℕ × ModelColumn) → ℕ → ℕ
start_of columns zero = 0
start_of columns (suc i) = start_of columns i + length (columns_with columns (suc i) (length columns))

-- at its place in its column there is a coefficient of this number
abbrev pub IsPlaced : List (List ℕ × ModelColumn) → ℕ → RowElement → Type 0
IsPlaced columns n element = option_map (λ (cell : ℕ × Number). cell.0) (slice_get (cells_of columns element.column) element.place) ≡ Some n

-- for each row the columns that have a coefficient in it, and its place there
pub record AreByRow (columns : List (List ℕ × ModelColumn)) (rows : ℕ) (lists : RowLists) : Type 0 where
  pub len : length lists.starts.items ≡ suc rows
  pub starts : (i : ℕ) → i ≤ rows → slice_index lists.starts.items i ≡ start_of columns i
  pub room : length lists.elements.items ≡ start_of columns rows
  pub own : (i : ℕ) → i < rows → map (λ (element : RowElement). element.column) (list_at lists i) ≡ columns_with columns (suc i) (length columns)
  pub placed : (i : ℕ) → i < rows → All (IsPlaced columns (suc i)) (list_at lists i)

-- the parts of a model, and their lists by rows
pub record AreListed (m : ModelParts) (lists : RowLists) : Type 0 where
  pub parts : AreModelParts m
  pub by_row : AreByRow m.columns (length m.rows.items) lists

-- the parts of a model, their lists by rows, if they were made, and the names of rows
pub record AreIndexed (m : ModelParts) (lists : Option RowLists) (row_names : RowNames) : Type 0 where
  pub parts : AreModelParts m
  pub by_row : IfSome lists (AreByRow m.columns (length m.rows.items))
  pub names : AreNames m.rows.items row_names
