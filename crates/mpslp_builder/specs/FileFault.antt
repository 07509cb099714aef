-- The whole-file errors of declarations.
use Rattle.std.specs.Prelude.{ℕ, Bool, List, [], ◌∷◌, filter, filter_map, Option, Some, None, if◌then◌else◌}
use Rattle.std.specs.Option.{option_map}
use Rattle.mpslp_decimal.specs.Decimal.{Number}
use Rattle.mpslp_builder.specs.Declaration.{RowDefinition, Draft, names_in}
use Rattle.mpslp_model_core.specs.Limits.{limits_of, has_infinite_rhs}
use Rattle.mpslp_model_core.specs.WrongParts.{is_inexact, is_too_large, is_crossed}
use Rattle.mpslp_builder.specs.Meaning.{has_negative_upper, has_binary_bounds, row_passes}
use Rattle.mpslp_builder.specs.Bounds.{has_crossed_bounds, has_semi_bounds}
use Rattle.mpslp_types.specs.Lists.{is_nonempty, head_of}
use Rattle.mpslp_types.specs.declared.faults.Fault.{Fault}
use Rattle.mpslp_types.specs.declared.faults.FaultKind.{FaultKind}
use Rattle.mpslp_types.specs.declared.faults.FaultKind.TheVariants.{NoColumns, InfiniteLimit, RangeInexact, LimitTooLarge, LimitsCrossed, NegativeUpper, BoundsCrossed, BinaryBounds, SemiBounds}

-- the rows, or the columns, that pass a test, in byte order
abbrev pub rows_where : Draft → (RowDefinition → Number → Option Number → Bool) → List (List ℕ)
rows_where all test = names_in (filter (row_passes all test) all.rows)

abbrev pub columns_where : Draft → (Draft → List ℕ → Bool) → List (List ℕ)
columns_where all test = filter (test all) (names_in all.columns)

-- the rows or columns that have an error of this kind
abbrev pub names_with : Draft → FaultKind → List (List ℕ)
names_with all InfiniteLimit = rows_where all has_infinite_rhs
names_with all RangeInexact = rows_where all (λ definition b r. is_inexact (limits_of definition b r))
names_with all LimitTooLarge = rows_where all (λ definition b r. is_too_large (limits_of definition b r))
names_with all LimitsCrossed = rows_where all (λ definition b r. is_crossed (limits_of definition b r))
names_with all NegativeUpper = columns_where all has_negative_upper
names_with all BoundsCrossed = columns_where all has_crossed_bounds
names_with all BinaryBounds = columns_where all has_binary_bounds
names_with all SemiBounds = columns_where all has_semi_bounds
names_with all _ = []

-- the kinds that name a row or a column, in the order of kinds
abbrev pub named_kinds : List FaultKind
named_kinds = InfiniteLimit ∷ RangeInexact ∷ LimitTooLarge ∷ LimitsCrossed ∷ NegativeUpper ∷ BoundsCrossed ∷ BinaryBounds ∷ SemiBounds ∷ []

-- a whole-file error has no line, which is represented by line 0
abbrev pub whole_fault : FaultKind → Option (List ℕ) → Fault
whole_fault kind name = record { kind = kind; line = 0; name = name }

-- one error of each kind that occurs, with the least name that has it
abbrev pub named_faults : Draft → List Fault
named_faults all = filter_map (λ kind. option_map (λ name. whole_fault kind (Some name)) (head_of (names_with all kind))) named_kinds

-- the whole-file error, if there is one: the first kind, with its least name
abbrev pub file_fault : Draft → Option Fault
file_fault all = if is_nonempty all.columns then head_of (named_faults all) else Some (whole_fault NoColumns None)
