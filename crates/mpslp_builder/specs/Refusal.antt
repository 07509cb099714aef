-- When a declaration is rejected, given the declarations before it.
use Rattle.std.specs.Prelude.{ℕ, Bool, false, ◌&&◌, ◌||◌, not, List, [], ◌∷◌, ◌++◌, Option, is_some}
use Rattle.mpslp_types.specs.Basics.{option_map_or, those_of, is_infinite_size, is_plus_infinite, is_minus_infinite}
use Rattle.mpslp_builder.specs.Declaration.{Declaration, declare_sense, declare_objective, declare_constant, declare_row, declare_rhs, declare_range, declare_column, declare_coefficient, declare_lower, declare_upper, declare_marked, declare_integer, declare_binary, declare_semi, Declarations, Draft, with_declaration, has_name, is_objective, has_row, has_column, has_coefficient, is_integer, is_semi, is_free_row, is_row_by_limits, have_infinite_side, CoefficientKey}
use Rattle.mpslp_builder.specs.Consistency.{has_objective_rhs}
use Rattle.mpslp_types.specs.declared.{kinds.Limit.Limit, faults.BuildFault.BuildFault, faults.BuildFault.TheVariants.DuplicateSense, faults.BuildFault.TheVariants.SecondObjective, faults.BuildFault.TheVariants.UnknownRow, faults.BuildFault.TheVariants.UnknownColumn, faults.BuildFault.TheVariants.DuplicateRow, faults.BuildFault.TheVariants.DuplicateEntry, faults.BuildFault.TheVariants.DuplicateRhs, faults.BuildFault.TheVariants.DuplicateRange, faults.BuildFault.TheVariants.DuplicateBound, faults.BuildFault.TheVariants.RangeOnFree, faults.BuildFault.TheVariants.SemiContinuous, faults.BuildFault.TheVariants.InfiniteValue}

-- a constant, or a right-hand side of the objective
abbrev pub has_constant : Draft → Bool
has_constant all = is_some all.constant || has_objective_rhs all

-- ---- the errors of a declaration, each with its test, in the order in which they are reported

-- for either sense
abbrev pub sense_tests : Draft → List (Bool × BuildFault)
sense_tests all = (is_some all.sense, DuplicateSense) ∷ []

-- for any value
abbrev pub constant_tests : Draft → List (Bool × BuildFault)
constant_tests all = (has_constant all, DuplicateRhs) ∷ []

-- for a row of any type
abbrev pub row_tests : Draft → List ℕ → List (Bool × BuildFault)
row_tests all name = (has_row all name, DuplicateRow) ∷ []

-- for any value
abbrev pub rhs_tests : Draft → List ℕ → List (Bool × BuildFault)
rhs_tests all row =
    (not (has_row all row), UnknownRow)
    ∷ (has_name all.rhs_values row || (is_row_by_limits all row || (is_objective all row && is_some all.constant)), DuplicateRhs) ∷ []

-- for any value
abbrev pub coefficient_tests : Draft → CoefficientKey → List (Bool × BuildFault)
coefficient_tests all key =
    (not (has_row all key.row), UnknownRow) ∷ (not (has_column all key.column), UnknownColumn) ∷ (has_coefficient all key, DuplicateEntry) ∷ []

-- for a column that is declared marked, integer or binary
abbrev pub integer_tests : Draft → List ℕ → List (Bool × BuildFault)
integer_tests all column = (not (has_column all column), UnknownColumn) ∷ (is_semi all column, SemiContinuous) ∷ []

abbrev pub semi_tests : Draft → List ℕ → List (Bool × BuildFault)
semi_tests all column = (not (has_column all column), UnknownColumn) ∷ (is_integer all column, SemiContinuous) ∷ []

-- the tests of a declaration
abbrev pub refusal_tests : Draft → Declaration → List (Bool × BuildFault)
refusal_tests all (declare_sense sense) = sense_tests all
refusal_tests all (declare_objective name) = (is_some all.objective, SecondObjective) ∷ (has_row all name, DuplicateRow) ∷ []
refusal_tests all (declare_constant value) = constant_tests all
refusal_tests all (declare_row name definition) = row_tests all name ++ (have_infinite_side definition, InfiniteValue) ∷ []
refusal_tests all (declare_rhs row value) = rhs_tests all row
refusal_tests all (declare_range row value) =
    (not (has_row all row), UnknownRow) ∷ (has_name all.ranges row || is_row_by_limits all row, DuplicateRange)
    ∷ (is_objective all row || is_free_row all row, RangeOnFree) ∷ (is_infinite_size value, InfiniteValue) ∷ []
refusal_tests all (declare_column name) = []
refusal_tests all (declare_coefficient key value) = coefficient_tests all key
refusal_tests all (declare_lower column limit) =
    (not (has_column all column), UnknownColumn) ∷ (has_name all.lowers column, DuplicateBound) ∷ (is_plus_infinite limit, InfiniteValue) ∷ []
refusal_tests all (declare_upper column limit) =
    (not (has_column all column), UnknownColumn) ∷ (has_name all.uppers column, DuplicateBound) ∷ (is_minus_infinite limit, InfiniteValue) ∷ []
refusal_tests all (declare_marked column) = integer_tests all column
refusal_tests all (declare_integer column) = integer_tests all column
refusal_tests all (declare_binary column) = integer_tests all column
refusal_tests all (declare_semi column) = semi_tests all column

-- the errors of a declaration, in order
abbrev pub refusals : Draft → Declaration → List BuildFault
refusals all declaration = those_of (refusal_tests all declaration)

-- the errors of several declarations in turn. A rejected declaration still counts: a second range of a row is a duplicate,
-- whatever the error of the first
abbrev pub refusals_in_turn : Draft → Declarations → List BuildFault
refusals_in_turn before [] = []
refusals_in_turn before (declaration ∷ more) = refusals before declaration ++ refusals_in_turn (with_declaration before declaration) more

-- ---- the bounds of a column, declared by one call

abbrev pub bounds_tests : Draft → List ℕ → Option Limit → Option Limit → List (Bool × BuildFault)
bounds_tests all column lower upper =
    (not (has_column all column), UnknownColumn)
    ∷ ((is_some lower && has_name all.lowers column) || (is_some upper && has_name all.uppers column), DuplicateBound)
    ∷ (option_map_or is_plus_infinite lower false || option_map_or is_minus_infinite upper false, InfiniteValue) ∷ []

-- the errors of the given bounds; each is checked for both bounds before the next
abbrev pub bounds_refusals : Draft → List ℕ → Option Limit → Option Limit → List BuildFault
bounds_refusals all column lower upper = those_of (bounds_tests all column lower upper)
