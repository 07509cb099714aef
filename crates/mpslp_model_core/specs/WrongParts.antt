-- The errors that a row or a column may have in the file as a whole.
use Rattle.std.specs.Prelude.{◌||◌, Bool, Option, true, false, not, Some, None, is_none}
use Rattle.std.specs.Option.{option_map_or}
use Rattle.mpslp_decimal.specs.Decimal.{Number, is_infinite_size, difference_of}
use Rattle.mpslp_model_core.specs.Limits.{RowDefinition, limits_of, has_infinite_rhs, is_negative_upper, are_no_binary_bounds, declared_lower, declared_upper, declared_kind}
use Rattle.mpslp_model_core.specs.declared.bounds.DeclaredColumn.{DeclaredColumn}
use Rattle.mpslp_types.specs.declared.faults.FaultKind.{FaultKind}
use Rattle.mpslp_types.specs.declared.faults.FaultKind.TheVariants as kinds
use Rattle.mpslp_model_core.specs.declared.limits.RowFault.{RowFault}
use Rattle.mpslp_model_core.specs.declared.limits.RowFault.TheVariants as rows
use Rattle.mpslp_model_core.specs.declared.bounds.ColumnFault.{ColumnFault}
use Rattle.mpslp_model_core.specs.declared.bounds.ColumnFault.TheVariants as columns
use Rattle.mpslp_model_core.specs.Model.{Row, suits}
use Rattle.mpslp_types.specs.Limit.{is_at_most}
use Rattle.mpslp_types.specs.declared.kinds.Limit.{Limit}
use Rattle.mpslp_types.specs.declared.kinds.Limit.TheVariants.{Finite}

-- a test of upper minus lower, if both are finite; the difference may not be a decimal
abbrev pub distance_passes : (Option Number → Bool) → Row → Bool
distance_passes test row = between row.lower row.upper
  where
    between : Limit → Limit → Bool
    between (Finite a) (Finite b) = test (difference_of b a)
    between _ _ = false

abbrev pub is_large_limit : Limit → Bool
is_large_limit (Finite d) = is_infinite_size d
is_large_limit _ = false

-- a computed limit or the distance is not a decimal
abbrev pub is_inexact : Option Row → Bool
is_inexact None = true
is_inexact (Some row) = distance_passes is_none row

-- a computed limit or the distance has a magnitude of 10^20 or more
abbrev pub is_too_large : Option Row → Bool
is_too_large None = false
is_too_large (Some row) = is_large_limit row.lower || (is_large_limit row.upper || distance_passes (λ d. option_map_or is_infinite_size d false) row)

-- the lower limit above the upper one
abbrev pub is_crossed : Option Row → Bool
is_crossed None = false
is_crossed (Some row) = not (is_at_most row.lower row.upper)

abbrev pub row_test : RowFault → RowDefinition → Number → Option Number → Bool
row_test rows.InfiniteLimit definition b r = has_infinite_rhs definition b r
row_test rows.RangeInexact definition b r = is_inexact (limits_of definition b r)
row_test rows.LimitTooLarge definition b r = is_too_large (limits_of definition b r)
row_test rows.LimitsCrossed definition b r = is_crossed (limits_of definition b r)

-- whether a row has any error
abbrev pub is_faulty_row : RowDefinition → Number → Option Number → Bool
is_faulty_row definition b r =
    let limits = limits_of definition b r in
    has_infinite_rhs definition b r || (is_inexact limits || (is_too_large limits || is_crossed limits))

-- the lower bound above the upper one
abbrev pub are_crossed_bounds : DeclaredColumn → Bool
are_crossed_bounds d = not (is_at_most (declared_lower d) (declared_upper d))

-- semi-continuous, and the lower bound is below 0, or the upper bound is infinite or not above 0
abbrev pub are_no_semi_bounds : DeclaredColumn → Bool
are_no_semi_bounds d = not (suits (declared_kind d) (declared_lower d) (declared_upper d))

abbrev pub bounds_test : ColumnFault → DeclaredColumn → Bool
bounds_test columns.NegativeUpper d = is_negative_upper d
bounds_test columns.BoundsCrossed d = are_crossed_bounds d
bounds_test columns.BinaryBounds d = are_no_binary_bounds d
bounds_test columns.SemiBounds d = are_no_semi_bounds d

-- whether a column has any error
abbrev pub are_faulty_bounds : DeclaredColumn → Bool
are_faulty_bounds d = is_negative_upper d || (are_crossed_bounds d || (are_no_binary_bounds d || are_no_semi_bounds d))

abbrev pub kind_of_row_fault : RowFault → FaultKind
kind_of_row_fault rows.InfiniteLimit = kinds.InfiniteLimit
kind_of_row_fault rows.RangeInexact = kinds.RangeInexact
kind_of_row_fault rows.LimitTooLarge = kinds.LimitTooLarge
kind_of_row_fault rows.LimitsCrossed = kinds.LimitsCrossed

abbrev pub kind_of_column_fault : ColumnFault → FaultKind
kind_of_column_fault columns.NegativeUpper = kinds.NegativeUpper
kind_of_column_fault columns.BoundsCrossed = kinds.BoundsCrossed
kind_of_column_fault columns.BinaryBounds = kinds.BinaryBounds
kind_of_column_fault columns.SemiBounds = kinds.SemiBounds
