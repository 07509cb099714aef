-- The model that declarations mean.
use Rattle.std.specs.Prelude.{◌≡◌, ℕ, Bool, not, IsTrue, List, [], map, filter, Option, is_some, unwrap_or}
use Rattle.mpslp_types.specs.Basics.{list_all, from_sorted, Number, is_zero, zero_number, negated}
pub use Rattle.mpslp_model_core.specs.Model.{Row, IsSound, Column, LinearModel}
pub use Rattle.mpslp_builder.specs.Declaration.{RowDefinition, draft_of, at_name, names_in, has_name, is_semi, Declarations, Draft, empty_draft, with_declarations}
use Rattle.mpslp_model_core.specs.Limits.{limits_of, plain_limits, has_infinite_rhs, declared_column, is_negative_upper, are_no_binary_bounds}
use Rattle.mpslp_builder.specs.Consistency.{AreConsistent}
use Rattle.mpslp_types.specs.declared.kinds.{Sense.TheVariants.Minimize, RowType.TheVariants.Free}
use Rattle.mpslp_model_core.specs.declared.bounds.DeclaredColumn.{DeclaredColumn}

-- ---- the model of a draft

abbrev pub objective_name : Draft → List ℕ
objective_name all = unwrap_or all.objective []

-- the constant, or the negated right-hand side of the objective, or 0
abbrev pub constant_of : Draft → Number
constant_of all = unwrap_or all.constant (negated (unwrap_or (at_name all.rhs_values (objective_name all)) zero_number))

abbrev pub rhs_or_zero : Draft → List ℕ → Number
rhs_or_zero all name = unwrap_or (at_name all.rhs_values name) zero_number

-- the limits of a row, if they are decimals
abbrev pub row_limits : Draft → List ℕ × RowDefinition → Option Row
row_limits all row = limits_of row.1 (rhs_or_zero all row.0) (at_name all.ranges row.0)

-- a row whose limits are not decimals is in no model, so its value here does not matter
abbrev pub row_entry : Draft → List ℕ × RowDefinition → List ℕ × Row
row_entry all row = (row.0, unwrap_or (row_limits all row) (plain_limits Free zero_number))

-- what is declared of a column
abbrev pub declared_of : Draft → List ℕ → DeclaredColumn
declared_of all column = record {
  lower = at_name all.lowers column;
  upper = at_name all.uppers column;
  marked = has_name all.marked column;
  integer = has_name all.integers column;
  binary = has_name all.binaries column;
  semi = is_semi all column;
}

abbrev pub column_of : Draft → List ℕ → Column
column_of all column = declared_column (declared_of all column)

abbrev pub model_of : Draft → LinearModel
model_of all = record {
  sense = unwrap_or all.sense Minimize;
  objective = objective_name all;
  constant = constant_of all;
  rows = from_sorted (map (row_entry all) all.rows);
  columns = from_sorted (map (λ column. (column.0, column_of all column.0)) all.columns);
  coefficients = from_sorted (filter (λ entry. not (is_zero entry.1)) all.coefficients);
}

-- a test of a row's definition, right-hand side and range
abbrev pub row_passes : Draft → (RowDefinition → Number → Option Number → Bool) → List ℕ × RowDefinition → Bool
row_passes all test row = test row.1 (rhs_or_zero all row.0) (at_name all.ranges row.0)

-- ---- columns that no model has

abbrev pub has_negative_upper : Draft → List ℕ → Bool
has_negative_upper all column = is_negative_upper (declared_of all column)

abbrev pub has_binary_bounds : Draft → List ℕ → Bool
has_binary_bounds all column = are_no_binary_bounds (declared_of all column)

-- ---- the meaning

-- A draft means a model: no row has the error `InfiniteLimit`; all limits are decimals; the model is well-formed; each upper
-- bound below 0 has a declared lower bound; binary columns have bounds within 0 and 1.
pub record DraftMeans (all : Draft) (m : LinearModel) : Type 0 where
  pub finite_rhs_values : IsTrue (list_all (λ row. not (row_passes all has_infinite_rhs row)) all.rows)
  pub exact_limits : IsTrue (list_all (λ row. is_some (row_limits all row)) all.rows)
  pub model : m ≡ model_of all
  pub sound : IsSound m
  pub no_negative_upper : IsTrue (list_all (λ name. not (has_negative_upper all name)) (names_in all.columns))
  pub binary_within : IsTrue (list_all (λ name. not (has_binary_bounds all name)) (names_in all.columns))

-- The declarations mean the model.
pub record Means (declarations : Declarations) (m : LinearModel) : Type 0 where
  pub consistent : AreConsistent declarations
  pub meant : DraftMeans (draft_of declarations) m
