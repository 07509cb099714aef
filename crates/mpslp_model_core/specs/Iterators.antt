-- What the iterators over coefficients are made of.
use Rattle.std.specs.Prelude.{◌≡◌, ℕ, ◌-◌, ◌<◌, ◌≤◌, length}
use Rattle.mpslp_decimal.specs.Decimal.{Number}
use Rattle.mpslp_model_core.specs.Model.{LinearModel}
use Rattle.mpslp_model_core.specs.Views.{num_rows, row_columns, row_name}

-- a stored coefficient is that of a row, and not of the objective
abbrev pub IsOfRow : ℕ × Number → Type 0
IsOfRow cell = 0 < cell.0

-- the index of the row, and the value
abbrev pub entry_of_cell : ℕ × Number → ℕ × Number
entry_of_cell cell = (cell.0 - 1, cell.1)

-- there is a row at this index, and so many coefficients in it, of which so many have been returned
pub record AreCounted (m : LinearModel) (i place total : ℕ) : Type 0 where
  pub row : i < num_rows m
  pub count : total ≡ length (row_columns m (row_name m i))
  pub returned : place ≤ total
