-- A model from its parts, and the properties of these. Rows are numbered in byte order of their names, starting at 1; the
-- objective has the number 0.
use Rattle.std.specs.Prelude.{◌≡◌, ℕ, true, IsTrue, List, Option, Some}
use Rattle.std.specs.Ordering.{nat_cmp}
use Rattle.std.specs.FinMap as maps
use Rattle.std.specs.List.{list_all}
use Rattle.mpslp_decimal.specs.Decimal.{Number}
use Rattle.mpslp_model_core.specs.Model.{LinearModel, Column, key_cmp, IsSound}
use Rattle.mpslp_model_core.specs.Numbered.{sorted_of, each_part, name_of, all_cells, all_named}
use Rattle.mpslp_types.specs.Name.{bytes_cmp}
use Rattle.mpslp_model_core.specs.ModelColumns.{ModelColumn}
use Rattle.mpslp_model_core.specs.declared.model.ModelParts.{ModelParts}

abbrev pub bounds_in : ModelColumn → Column
bounds_in column = column.bounds

abbrev pub cells_in : ModelColumn → List (ℕ × Number)
cells_in column = column.cells

-- the columns by their names: their bounds, and their coefficients
abbrev pub columns_in : ModelParts → List (List ℕ × Column)
columns_in m = each_part bounds_in m.columns

abbrev pub cells_by_name : ModelParts → List (List ℕ × List (ℕ × Number))
cells_by_name m = each_part cells_in m.columns

-- the name of the row of a number
abbrev pub name_of_row_key : ModelParts → ℕ → Option (List ℕ)
name_of_row_key m = name_of (Some m.objective) m.rows.items

abbrev pub linear_model : ModelParts → LinearModel
linear_model m = record {
  sense = m.sense;
  objective = m.objective;
  constant = m.constant;
  rows = maps.from_sorted m.rows.items;
  columns = maps.from_sorted (columns_in m);
  coefficients = maps.from_sorted (sorted_of key_cmp (all_cells (name_of_row_key m) (cells_by_name m)));
}

-- Rows and columns are in the order of their names, the coefficients of a column in the order of their row numbers, each
-- number is that of a row or of the objective, and the model is well-formed.
pub record AreModelParts (m : ModelParts) : Type 0 where
  pub rows : IsTrue (maps.is_sorted bytes_cmp m.rows.items)
  pub columns : IsTrue (maps.is_sorted bytes_cmp (columns_in m))
  pub cells : list_all (λ c. maps.is_sorted nat_cmp c.1) (cells_by_name m) ≡ true
  pub named : all_named (name_of_row_key m) (cells_by_name m) ≡ true
  pub sound : IsSound (linear_model m)
