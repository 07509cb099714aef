-- The limits of a row, and the type and bounds of a column, from what is declared of them.
use Rattle.std.specs.Prelude.{Bool, true, false, ◌&&◌, ◌||◌, not, if◌then◌else◌, Option, Some, None, is_some, is_none, unwrap_or}
use Rattle.mpslp_types.specs.Basics.{Number, is_negative, is_infinite_size, size_of, sum_of, difference_of, one_number, limit_of, is_plus_infinite, is_minus_infinite, zero_limit, is_at_most}
use Rattle.mpslp_model_core.specs.Model.{Row, Column}
use Rattle.mpslp_types.specs.declared.kinds.{Limit.Limit, Limit.TheVariants.MinusInf, Limit.TheVariants.Finite, Limit.TheVariants.PlusInf, RowType.RowType, RowType.TheVariants.Free, RowType.TheVariants.AtMost, RowType.TheVariants.AtLeast, RowType.TheVariants.Equal, Kind.Kind, Kind.TheVariants.Continuous, Kind.TheVariants.Integer, Kind.TheVariants.Semi}
use Rattle.mpslp_model_core.specs.declared.bounds.DeclaredColumn.{DeclaredColumn}

-- how a row is declared: by its type, or by both limits
pub data RowDefinition : Type 0 where
  by_type : RowType → RowDefinition
  by_limits : Limit → Limit → RowDefinition

-- true for a row of type N, false for a row by limits
abbrev pub is_free_definition : RowDefinition → Bool
is_free_definition (by_type Free) = true
is_free_definition _ = false

abbrev pub is_definition_by_limits : RowDefinition → Bool
is_definition_by_limits (by_type _) = false
is_definition_by_limits (by_limits _ _) = true

-- a lower limit of plus infinity, or an upper one of minus infinity
abbrev pub have_infinite_side : RowDefinition → Bool
have_infinite_side (by_type _) = false
have_infinite_side (by_limits lower upper) = is_plus_infinite lower || is_minus_infinite upper

-- finite limits, if both are given
abbrev pub sides : Option Number → Option Number → Option Row
sides (Some lower) (Some upper) = Some (record { lower = Finite lower; upper = Finite upper })
sides _ _ = None

-- the limits by type and right-hand side b, without a range: a right-hand side with a magnitude of 10^20 or more is infinite
abbrev pub plain_limits : RowType → Number → Row
plain_limits Free b = record { lower = MinusInf; upper = PlusInf }
plain_limits AtMost b = record { lower = MinusInf; upper = limit_of b }
plain_limits AtLeast b = record { lower = limit_of b; upper = PlusInf }
plain_limits Equal b = record { lower = limit_of b; upper = limit_of b }

-- the limits by type, right-hand side b and range value r, if the computed limit is a decimal. That limit is finite, whatever
-- its magnitude; so is b, because no model has a range with an infinite right-hand side
abbrev pub ranged_limits : RowType → Number → Number → Option Row
ranged_limits Free b r = Some (record { lower = MinusInf; upper = PlusInf })
ranged_limits AtMost b r = sides (difference_of b (size_of r)) (Some b)
ranged_limits AtLeast b r = sides (Some b) (sum_of b (size_of r))
ranged_limits Equal b r = if is_negative r then sides (difference_of b (size_of r)) (Some b) else sides (Some b) (sum_of b (size_of r))

abbrev pub limits_of : RowDefinition → Number → Option Number → Option Row
limits_of (by_type type) b None = Some (plain_limits type b)
limits_of (by_type type) b (Some r) = ranged_limits type b r
limits_of (by_limits lower upper) b r = Some (record { lower = lower; upper = upper })

-- ---- rows that no model has

-- the right-hand side is plus infinity on G, minus infinity on L, or either on E or with a range
abbrev pub has_infinite_rhs : RowDefinition → Number → Option Number → Bool
has_infinite_rhs (by_type Free) b r = false
has_infinite_rhs (by_type AtMost) b r = is_infinite_size b && (is_some r || is_negative b)
has_infinite_rhs (by_type AtLeast) b r = is_infinite_size b && (is_some r || not (is_negative b))
has_infinite_rhs (by_type Equal) b r = is_infinite_size b
has_infinite_rhs (by_limits _ _) b r = false

-- ---- the type and bounds of a column

abbrev pub one_limit : Limit
one_limit = Finite one_number

-- neither bound is declared
abbrev pub no_side_declared : DeclaredColumn → Bool
no_side_declared d = is_none d.lower && is_none d.upper

-- the upper bound if none is declared: 1 for a binary column, and for a marked one without any declared bound
abbrev pub upper_by_default : DeclaredColumn → Limit
upper_by_default d = if d.binary || (d.marked && no_side_declared d) then one_limit else PlusInf

-- 0 if none is declared
abbrev pub declared_lower : DeclaredColumn → Limit
declared_lower d = unwrap_or d.lower zero_limit

abbrev pub declared_upper : DeclaredColumn → Limit
declared_upper d = unwrap_or d.upper (upper_by_default d)

-- whether the column is integer
abbrev pub is_declared_integer : DeclaredColumn → Bool
is_declared_integer d = d.marked || (d.integer || d.binary)

-- no column is declared both integer and semi-continuous
abbrev pub declared_kind : DeclaredColumn → Kind
declared_kind d = if is_declared_integer d then Integer else (if d.semi then Semi else Continuous)

abbrev pub declared_column : DeclaredColumn → Column
declared_column d = record {
  kind = declared_kind d;
  lower = declared_lower d;
  upper = declared_upper d;
}

-- ---- columns that no model has

-- an upper bound below 0, without a declared lower bound
abbrev pub is_negative_upper : DeclaredColumn → Bool
is_negative_upper d = is_none d.lower && not (is_at_most zero_limit (declared_upper d))

-- binary, and the bounds are not within 0 and 1
abbrev pub are_no_binary_bounds : DeclaredColumn → Bool
are_no_binary_bounds d = d.binary
    && not (is_at_most zero_limit (declared_lower d) && is_at_most (declared_upper d) one_limit)
