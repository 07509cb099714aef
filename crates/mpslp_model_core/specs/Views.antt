-- The results of a model's accessors. Rows and columns are numbered from 0, in byte order of their names.
use Rattle.std.specs.Prelude.{ℕ, Bool, ◌&&◌, not, List, [], length, map, filter, position, Option, is_some, unwrap_or, slice_index_or, if◌then◌else◌}
use Rattle.std.specs.List.{range_with_len}
use Rattle.std.specs.Ordering.{is_eq}
use Rattle.std.specs.FinMap as maps
use Rattle.mpslp_decimal.specs.Decimal.{Number, zero_number, decimal_cmp, difference_of}
use Rattle.mpslp_types.specs.Name.{same_bytes}
use Rattle.mpslp_model_core.specs.Model.{CoefficientKey, key_cmp, Row, Column, LinearModel}
use Rattle.mpslp_types.specs.declared.kinds.Limit.{Limit}
use Rattle.mpslp_types.specs.declared.kinds.Limit.TheVariants.{MinusInf, Finite, PlusInf}

-- ---- rows and columns by number

abbrev pub row_names : LinearModel → List (List ℕ)
row_names m = maps.keys m.rows

abbrev pub column_names : LinearModel → List (List ℕ)
column_names m = maps.keys m.columns

abbrev pub rows_of : LinearModel → List Row
rows_of m = maps.values m.rows

abbrev pub columns_of : LinearModel → List Column
columns_of m = maps.values m.columns

abbrev pub num_rows : LinearModel → ℕ
num_rows m = length (row_names m)

abbrev pub num_columns : LinearModel → ℕ
num_columns m = length (column_names m)

abbrev pub row_name : LinearModel → ℕ → List ℕ
row_name m i = slice_index_or (row_names m) i []

abbrev pub column_name : LinearModel → ℕ → List ℕ
column_name m j = slice_index_or (column_names m) j []

-- the number of the row with this name; the objective is not a row
abbrev pub row_index : LinearModel → List ℕ → Option ℕ
row_index m name = position (same_bytes name) (row_names m)

abbrev pub column_index : LinearModel → List ℕ → Option ℕ
column_index m name = position (same_bytes name) (column_names m)

-- ---- the sense, right-hand side and range of a row

-- the letters of rows, in ASCII
abbrev pub letter_N : ℕ
letter_N = 78

abbrev pub letter_L : ℕ
letter_L = 76

abbrev pub letter_G : ℕ
letter_G = 71

abbrev pub letter_E : ℕ
letter_E = 69

abbrev pub letter_R : ℕ
letter_R = 82

-- the letter of a row. No model has limits that no value meets
abbrev pub row_sense : Row → ℕ
row_sense row = letter row.lower row.upper
  where
    letter : Limit → Limit → ℕ
    letter MinusInf (Finite b) = letter_L
    letter (Finite a) PlusInf = letter_G
    letter (Finite a) (Finite b) = if is_eq (decimal_cmp a b) then letter_E else letter_R
    letter _ _ = letter_N

-- the upper limit, otherwise the lower one, otherwise 0
abbrev pub right_hand_side : Row → Number
right_hand_side row = finite row.upper (finite row.lower zero_number)
  where
    finite : Limit → Number → Number
    finite (Finite a) other = a
    finite _ other = other

-- upper minus lower if both are finite, otherwise 0
abbrev pub row_range : Row → Number
row_range row = distance row.lower row.upper
  where
    distance : Limit → Limit → Number
    distance (Finite a) (Finite b) = unwrap_or (difference_of b a) zero_number
    distance _ _ = zero_number

-- ---- coefficients

-- the coefficient of this row and column; a missing one is 0
abbrev pub coefficient_at : LinearModel → List ℕ → List ℕ → Number
coefficient_at m row column = unwrap_or (maps.find key_cmp (record { row = row; column = column }) (maps.entries m.coefficients)) zero_number

-- of a row, not of the objective
abbrev pub is_element : LinearModel → CoefficientKey × Number → Bool
is_element m coefficient = not (same_bytes m.objective coefficient.0.row)

abbrev pub num_elements : LinearModel → ℕ
num_elements m = length (filter (is_element m) (maps.entries m.coefficients))

-- the nonzeros of a column, in the order of rows
abbrev pub column_elements : LinearModel → List ℕ → List (CoefficientKey × Number)
column_elements m column = filter (λ coefficient. is_element m coefficient && same_bytes column coefficient.0.column) (maps.entries m.coefficients)

-- each with the number of its row
abbrev pub numbered_elements : LinearModel → List ℕ → List (Option ℕ × Number)
numbered_elements m column = map (λ coefficient. (row_index m coefficient.0.row, coefficient.1)) (column_elements m column)

-- whether this row has a nonzero coefficient in this column
abbrev pub has_coefficient : LinearModel → List ℕ → List ℕ → Bool
has_coefficient m row column = is_some (maps.find key_cmp (record { row = row; column = column }) (maps.entries m.coefficients))

-- the numbers of the columns in which this row has a coefficient, ascending
abbrev pub row_columns : LinearModel → List ℕ → List ℕ
row_columns m row = filter (λ j. has_coefficient m row (column_name m j)) (range_with_len 0 (num_columns m))

-- the nonzeros of a row in the order of columns, each with the number of its column
abbrev pub row_elements : LinearModel → List ℕ → List (ℕ × Number)
row_elements m row = map (λ j. (j, coefficient_at m row (column_name m j))) (row_columns m row)
