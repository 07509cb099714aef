-- What is printed of a row and of the bounds of a column: the declarations that give them back.
use Rattle.std.specs.Prelude.{Bool, false, if◌then◌else◌, List, [], ◌∷◌, ◌++◌, Option, Some, None}
use Rattle.mpslp_types.specs.Basics.{Number, is_zero, difference_of, zero_number, have_same_value}
use Rattle.mpslp_types.specs.declared.kinds.{Kind.Kind, Kind.TheVariants.Continuous, Kind.TheVariants.Integer, Kind.TheVariants.Semi, Limit.Limit, Limit.TheVariants.MinusInf, Limit.TheVariants.Finite, Limit.TheVariants.PlusInf, RowType.RowType, RowType.TheVariants.Free, RowType.TheVariants.AtMost, RowType.TheVariants.AtLeast, RowType.TheVariants.Equal}
use Rattle.mpslp_mps_fields.specs.declared.bound_types.BoundType.{BoundType}
use Rattle.mpslp_mps_fields.specs.declared.bound_types.BoundType.TheVariants as bounds

-- ---- rows, by their lower and upper limits

-- E if both are equal, L with only an upper limit, G with only a lower one or for a ranged row, N without limits
abbrev pub printed_type : Limit → Limit → RowType
printed_type (Finite lower) (Finite upper) = if have_same_value lower upper then Equal else AtLeast
printed_type (Finite lower) _ = AtLeast
printed_type _ (Finite upper) = AtMost
printed_type _ _ = Free

-- the right-hand side: the lower limit for E and G, the upper one for L
abbrev pub printed_rhs : Limit → Limit → Number
printed_rhs (Finite lower) _ = lower
printed_rhs _ (Finite upper) = upper
printed_rhs _ _ = zero_number

-- the range of a ranged row
abbrev pub printed_range : Limit → Limit → Option Number
printed_range (Finite lower) (Finite upper) = if have_same_value lower upper then None else difference_of upper lower
printed_range _ _ = None

-- ---- the bounds of a column

pub record PrintedBound : Type 0 where
  pub type : BoundType
  pub value : Option Number

abbrev pub bound_without_value : BoundType → PrintedBound
bound_without_value type = record { type = type; value = None }

abbrev pub bound_with_value : BoundType → Number → PrintedBound
bound_with_value type value = record { type = type; value = Some value }

-- a lower bound other than 0
abbrev pub printed_lower : Limit → List PrintedBound
printed_lower MinusInf = bound_without_value bounds.NoLower ∷ []
printed_lower (Finite lower) = if is_zero lower then [] else bound_with_value bounds.Lower lower ∷ []
printed_lower PlusInf = []

-- the type of a finite upper bound; SC also declares the column semi-continuous
abbrev pub upper_type : Kind → BoundType
upper_type Continuous = bounds.Upper
upper_type Integer = bounds.Upper
upper_type Semi = bounds.SemiUpper

-- an upper bound: a finite one, and also an infinite one of an integer column, whose upper bound would otherwise be 1
abbrev pub printed_upper : Kind → Limit → List PrintedBound
printed_upper kind MinusInf = []
printed_upper kind (Finite upper) = bound_with_value (upper_type kind) upper ∷ []
printed_upper Integer PlusInf = bound_without_value bounds.NoUpper ∷ []
printed_upper Continuous PlusInf = []
printed_upper Semi PlusInf = []

-- equal bounds are printed in one line, but not for a semi-continuous column, because only SC declares its type
abbrev pub is_fixed : Kind → Number → Number → Bool
is_fixed Semi lower upper = false
is_fixed _ lower upper = have_same_value lower upper

-- both in one line if they are equal or both infinite
abbrev pub printed_bounds : Kind → Limit → Limit → List PrintedBound
printed_bounds kind MinusInf PlusInf = bound_without_value bounds.Free ∷ []
printed_bounds kind (Finite lower) (Finite upper) =
    if is_fixed kind lower upper then bound_with_value bounds.Fixed upper ∷ []
    else printed_lower (Finite lower) ++ printed_upper kind (Finite upper)
printed_bounds kind lower upper = printed_lower lower ++ printed_upper kind upper
