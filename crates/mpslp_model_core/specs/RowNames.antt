-- The names of all rows in one text.
use Rattle.std.specs.Prelude.{◌≡◌, ◌≤◌, ℕ, suc, List, length, take, slice_index, slice_range}
use Rattle.std.specs.List.{flat_map}
use Rattle.mpslp_model_core.specs.Model.{Row}
use Rattle.mpslp_model_core.specs.declared.row_names.RowNames.{RowNames}

-- the names of these rows, one after another
abbrev pub joined_names : List (List ℕ × Row) → List ℕ
joined_names rows = flat_map (λ (row : List ℕ × Row). row.0) rows

-- the name of the row at an index
abbrev pub name_in : RowNames → ℕ → List ℕ
name_in names i = slice_range names.text.items (slice_index names.starts.items i) (slice_index names.starts.items (suc i))

-- the names of rows, each from its start to that of the next one
pub record AreNames (rows : List (List ℕ × Row)) (names : RowNames) : Type 0 where
  pub len : length names.starts.items ≡ suc (length rows)
  pub starts : (i : ℕ) → i ≤ length rows → slice_index names.starts.items i ≡ length (joined_names (take i rows))
  pub text : names.text.items ≡ joined_names rows
