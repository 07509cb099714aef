-- Lines of MPS that are printed for one entry after another.
use Rattle.std.specs.Prelude.{◌≡◌, ◌+◌, ◌<◌, ℕ, Bool, true, false, not, List, [], ◌∷◌, length, slice_get, slice_index_or, Option, Some, None, ◌==◌, if◌then◌else◌}
use Rattle.std.specs.Option.{option_map}
use Rattle.std.specs.List.{flat_map}
use Rattle.std.specs.FinMap.{entries}
use Rattle.std.specs.Borrow.{Bor}
use Rattle.mpslp_decimal.specs.Decimal.{Number, is_zero}
use Rattle.mpslp_model_core.specs.Model.{LinearModel, CoefficientKey, Column, listing_of}
use Rattle.mpslp_model_core.specs.Views.{coefficient_at, column_name, column_elements, letter_G, letter_R}
use Rattle.mpslp_types.specs.declared.kinds.Kind.{Kind}
use Rattle.mpslp_types.specs.declared.kinds.Limit.{Limit}
use Rattle.mpslp_types.specs.declared.kinds.Limit.TheVariants.{MinusInf, Finite, PlusInf}
use Rattle.mpslp_mps_text.specs.PrintedValues.{is_fixed}
use Rattle.mpslp_mps_text.specs.CanonicalMps.{Lines, is_integer_column, coefficient_line, column_lines}
use Rattle.mpslp_io.specs.LinesAt.{lines_at}
use Rattle.mpslp_mps_write.specs.declared.mps.columns.Part.{Part}
use Rattle.mpslp_mps_write.specs.declared.mps.columns.Part.TheVariants.{Plain, Integers}

-- the letter of a row by its sense; R, a ranged row, is printed as G
abbrev pub printed_letter : ℕ → ℕ
printed_letter sense = if sense == letter_R then letter_G else sense

-- whether a column, which is integer or not, is in the part of COLUMNS
abbrev pub is_wanted : Part → Bool → Bool
is_wanted Integers is_integer = is_integer
is_wanted Plain is_integer = not is_integer

-- the lines of a column if it is in the part
abbrev pub of_part : Part → (List ℕ × Column → Lines) → List ℕ × Column → Lines
of_part part lines_of column = if is_wanted part (is_integer_column column) then lines_of column else []

-- the lines of all columns of the part
abbrev pub lines_of_part : LinearModel → Part → Lines
lines_of_part m part = flat_map (of_part part (column_lines (listing_of m))) (entries m.columns)

-- the line of a coefficient of a row
abbrev pub element_lines : List ℕ → CoefficientKey × Number → Lines
element_lines column element = coefficient_line column (element.0.row, element.1) ∷ []

-- the line of coefficient `k` of a column, among its coefficients in rows, and all these lines
abbrev pub element_lines_at : LinearModel → List ℕ → ℕ → Lines
element_lines_at m column k = lines_at (element_lines column) (column_elements m column) k

abbrev pub lines_of_elements : LinearModel → List ℕ → Lines
lines_of_elements m column = flat_map (element_lines column) (column_elements m column)

-- the row of coefficient `k` of column `j`, among its coefficients in rows
abbrev pub IsRowOf : LinearModel → ℕ → ℕ → List ℕ → Type 0
IsRowOf m j k row = option_map (λ (e : CoefficientKey × Number). e.0.row) (slice_get (column_elements m (column_name m j)) k) ≡ Some row

-- the rows of `count` of these coefficients from number `from` on, as far as there are so many
abbrev pub AreRowsOf : LinearModel → ℕ → ℕ → ℕ → List (Bor (List ℕ)) → Type 0
AreRowsOf m j from count rows = (n : ℕ) (default : Bor (List ℕ)) → n < count → from + n < length (column_elements m (column_name m j)) → IsRowOf m j (from + n) (slice_index_or rows n default).now

-- The line of the objective, with its value there: a column has it if that is not 0, or if it has no other coefficients.
abbrev pub objective_line_at : List ℕ → List ℕ → Number → List (CoefficientKey × Number) → Lines
objective_line_at objective column value [] = coefficient_line column (objective, value) ∷ []
objective_line_at objective column value (element ∷ elements) = if is_zero value then [] else coefficient_line column (objective, value) ∷ []

abbrev pub objective_lines : LinearModel → List ℕ → Lines
objective_lines m column = objective_line_at m.objective column (coefficient_at m m.objective column) (column_elements m column)

-- the value of a column whose bounds are printed in one line, because they are finite and have the same value
abbrev pub fixed_value : Kind → Limit → Limit → Option Number
fixed_value kind (Finite lower) (Finite upper) = if is_fixed kind lower upper then Some upper else None
fixed_value kind _ _ = None

-- neither bound is finite
abbrev pub are_free : Limit → Limit → Bool
are_free MinusInf PlusInf = true
are_free _ _ = false
