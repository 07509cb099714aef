-- The arrays of a model.
use Rattle.std.specs.Prelude.{◌≡◌, ◌<◌, ◌≤◌, ◌+◌, ◌^◌, ℕ, ℤ, pos, negsuc, ◌+ℤ◌, ◌*ℤ◌, List, length, take, slice_get, slice_range, sum_by, Option, None, Some}
use Rattle.std.specs.Option.{option_map}
use Rattle.mpslp_decimal.specs.Decimal.{Number}
use Rattle.mpslp_types.specs.declared.kinds.Kind.{Kind}
use Rattle.mpslp_types.specs.declared.kinds.Kind.TheVariants.{Continuous, Integer, Semi}
use Rattle.mpslp_types.specs.declared.kinds.Limit.{Limit}
use Rattle.mpslp_types.specs.declared.kinds.Limit.TheVariants.{MinusInf, Finite, PlusInf}
use Rattle.mpslp_types.specs.declared.kinds.Sense.{Sense}
use Rattle.mpslp_types.specs.declared.kinds.Sense.TheVariants.{Minimize, Maximize}
use Rattle.mpslp_model_core.specs.Model.{LinearModel, Row, Column}
use Rattle.mpslp_model_core.specs.Views.{num_rows, num_columns, num_elements, row_name, column_name, column_names, rows_of, columns_of, coefficient_at, column_elements, numbered_elements}
use Rattle.mpslp_c.specs.declared.arrays.TheConstants.{CONTINUOUS, INTEGER, SEMI, MINIMIZE, MAXIMIZE}
use Rattle.mpslp_c.specs.declared.numbers.MpslpNumber.{MpslpNumber}
use Rattle.mpslp_c.specs.declared.arrays.MpslpName.{MpslpName}
use Rattle.mpslp_c.specs.declared.arrays.MpslpRow.{MpslpRow}
use Rattle.mpslp_c.specs.declared.arrays.MpslpColumn.{MpslpColumn}
use Rattle.mpslp_c.specs.declared.arrays.MpslpElement.{MpslpElement}
use Rattle.mpslp_c.specs.declared.arrays.MpslpModel.{MpslpModel}

-- ---- numbers

-- A decimal, exactly: its mantissa in two parts, and its exponent.
pub record RepresentsNumber (number : Number) (in_c : MpslpNumber) : Type 0 where
  pub mantissa : number.mantissa ≡ (in_c.high *ℤ pos (2 ^ 64)) +ℤ pos in_c.low
  pub exponent : in_c.exponent ≡ number.exponent
  pub infinity : in_c.infinity ≡ pos 0

-- Of an infinite limit only the sign is set.
abbrev pub RepresentsInfinity : ℤ → MpslpNumber → Type 0
RepresentsInfinity sign in_c = in_c ≡ record { low = 0; high = pos 0; exponent = pos 0; infinity = sign }

abbrev pub RepresentsLimit : Limit → MpslpNumber → Type 0
RepresentsLimit MinusInf in_c = RepresentsInfinity (negsuc 0) in_c
RepresentsLimit (Finite number) in_c = RepresentsNumber number in_c
RepresentsLimit PlusInf in_c = RepresentsInfinity (pos 1) in_c

-- The limit of a row or the bound of a column, whose index is in range.
abbrev pub RepresentsSide : Option Limit → MpslpNumber → Type 0
RepresentsSide None in_c = ⊥
RepresentsSide (Some limit) in_c = RepresentsLimit limit in_c

-- ---- names

-- A name, by its place in the names.
pub record RepresentsName (names : List ℕ) (name : List ℕ) (in_c : MpslpName) : Type 0 where
  pub within : in_c.at + in_c.len ≤ length names
  pub bytes : slice_range names in_c.at (in_c.at + in_c.len) ≡ name

-- Each name that is in the old names is in the new ones, at the same place.
abbrev pub KeepsNames : List ℕ → List ℕ → Type 0
KeepsNames old new = (name : List ℕ) (in_c : MpslpName) → RepresentsName old name in_c → RepresentsName new name in_c

-- ---- rows

pub record RepresentsRow (m : LinearModel) (names : List ℕ) (i : ℕ) (in_c : MpslpRow) : Type 0 where
  pub name : RepresentsName names (row_name m i) in_c.name
  pub lower : RepresentsSide (option_map (λ (row : Row). row.lower) (slice_get (rows_of m) i)) in_c.lower
  pub upper : RepresentsSide (option_map (λ (row : Row). row.upper) (slice_get (rows_of m) i)) in_c.upper

-- Each row of the list is that of its index.
abbrev pub RepresentsRows : LinearModel → List ℕ → List MpslpRow → Type 0
RepresentsRows m names rows = (i : ℕ) (in_c : MpslpRow) → slice_get rows i ≡ Some in_c → RepresentsRow m names i in_c

-- ---- elements

-- A nonzero, by the index of its row and its value.
abbrev pub RepresentsElement : Option (Option ℕ × Number) → Option MpslpElement → Type 0
RepresentsElement None in_c = ⊥
RepresentsElement (Some element) None = ⊥
RepresentsElement (Some element) (Some in_c) = (element.0 ≡ Some in_c.row) × RepresentsNumber element.1 in_c.value

-- From the index `first` on come the nonzeros of a column, or the first `count` of them.
abbrev pub RepresentsElements : LinearModel → ℕ → ℕ → ℕ → List MpslpElement → Type 0
RepresentsElements m j first count elements =
    (k : ℕ) → k < count → RepresentsElement (slice_get (numbered_elements m (column_name m j)) k) (slice_get elements (first + k))

-- Each element of the old list is in the new one, at the same index.
abbrev pub KeepsElements : List MpslpElement → List MpslpElement → Type 0
KeepsElements old new = (k : ℕ) (in_c : MpslpElement) → slice_get old k ≡ Some in_c → slice_get new k ≡ Some in_c

-- how many nonzeros a column has
abbrev pub column_len : LinearModel → List ℕ → ℕ
column_len m column = length (column_elements m column)

-- how many nonzeros the first `j` columns have
abbrev pub elements_before : LinearModel → ℕ → ℕ
elements_before m j = sum_by (column_len m) (take j (column_names m))

-- ---- columns

abbrev pub kind_number : Kind → ℕ
kind_number Continuous = CONTINUOUS
kind_number Integer = INTEGER
kind_number Semi = SEMI

-- A column without its nonzeros.
pub record RepresentsColumnHead (m : LinearModel) (names : List ℕ) (j : ℕ) (in_c : MpslpColumn) : Type 0 where
  pub name : RepresentsName names (column_name m j) in_c.name
  pub lower : RepresentsSide (option_map (λ (column : Column). column.lower) (slice_get (columns_of m) j)) in_c.lower
  pub upper : RepresentsSide (option_map (λ (column : Column). column.upper) (slice_get (columns_of m) j)) in_c.upper
  pub cost : RepresentsNumber (coefficient_at m m.objective (column_name m j)) in_c.cost
  pub kind : option_map (λ (column : Column). kind_number column.kind) (slice_get (columns_of m) j) ≡ Some in_c.kind
  pub first : in_c.first ≡ elements_before m j

-- With its nonzeros, one after another in the order of rows.
pub record RepresentsColumn (m : LinearModel) (names : List ℕ) (all : List MpslpElement) (j : ℕ) (in_c : MpslpColumn) : Type 0 where
  pub head : RepresentsColumnHead m names j in_c
  pub elements : RepresentsElements m j in_c.first (column_len m (column_name m j)) all

abbrev pub RepresentsColumns : LinearModel → List ℕ → List MpslpElement → List MpslpColumn → Type 0
RepresentsColumns m names elements columns = (j : ℕ) (in_c : MpslpColumn) → slice_get columns j ≡ Some in_c → RepresentsColumn m names elements j in_c

-- ---- a model

abbrev pub sense_number : Sense → ℕ
sense_number Minimize = MINIMIZE
sense_number Maximize = MAXIMIZE

-- The arrays of a model: as many rows, columns and nonzeros as it has, each of them by its index, and the rest.
pub record RepresentsModel (m : LinearModel) (in_c : MpslpModel) : Type 0 where
  pub num_rows : length in_c.rows.now ≡ num_rows m
  pub num_columns : length in_c.columns.now ≡ num_columns m
  pub num_elements : length in_c.elements.now ≡ num_elements m
  pub rows : RepresentsRows m in_c.names.now in_c.rows.now
  pub columns : RepresentsColumns m in_c.names.now in_c.elements.now in_c.columns.now
  pub constant : RepresentsNumber m.constant in_c.constant
  pub objective : RepresentsName in_c.names.now m.objective in_c.objective
  pub sense : in_c.sense ≡ sense_number m.sense
