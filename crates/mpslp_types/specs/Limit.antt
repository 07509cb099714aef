-- Limits of rows and bounds of columns: how values give them, their order, and their distance.
use Rattle.std.specs.Prelude.{Bool, true, false, ◌&&◌, not, if◌then◌else◌}
use Rattle.std.specs.Ordering.{is_lt}
use Rattle.std.specs.Option.{option_map_or}
use Rattle.mpslp_decimal.specs.Decimal.{Number, zero_number, is_decimal, is_negative, is_infinite_size, decimal_cmp, difference_of}
use Rattle.mpslp_types.specs.declared.kinds.Limit.{Limit, TheVariants.MinusInf, TheVariants.Finite, TheVariants.PlusInf}

abbrev pub is_plus_infinite : Limit → Bool
is_plus_infinite PlusInf = true
is_plus_infinite _ = false

abbrev pub is_minus_infinite : Limit → Bool
is_minus_infinite MinusInf = true
is_minus_infinite _ = false

-- a given value with a magnitude of 10^20 or more is the infinity of its sign
abbrev pub limit_of : Number → Limit
limit_of d = if is_infinite_size d then (if is_negative d then MinusInf else PlusInf) else Finite d

-- the first is at most the second: minus infinity comes first, plus infinity last
abbrev pub is_at_most : Limit → Limit → Bool
is_at_most MinusInf _ = true
is_at_most (Finite a) MinusInf = false
is_at_most (Finite a) (Finite b) = not (is_lt (decimal_cmp b a))
is_at_most (Finite a) PlusInf = true
is_at_most PlusInf MinusInf = false
is_at_most PlusInf (Finite b) = false
is_at_most PlusInf PlusInf = true

-- a decimal with a magnitude below 10^20
abbrev pub is_bounded_decimal : Number → Bool
is_bounded_decimal d = is_decimal d && not (is_infinite_size d)

-- a limit that may be given: a finite one has a magnitude below 10^20
abbrev pub is_given : Limit → Bool
is_given (Finite d) = is_bounded_decimal d
is_given _ = true

-- not plus infinity, and bounded if it is finite
abbrev pub is_lower_side : Limit → Bool
is_lower_side MinusInf = true
is_lower_side (Finite a) = is_bounded_decimal a
is_lower_side PlusInf = false

-- not minus infinity, and bounded if it is finite
abbrev pub is_upper_side : Limit → Bool
is_upper_side MinusInf = false
is_upper_side (Finite a) = is_bounded_decimal a
is_upper_side PlusInf = true

abbrev pub are_sides : Limit → Limit → Bool
are_sides lower upper = is_lower_side lower && (is_upper_side upper && is_at_most lower upper)

abbrev pub zero_limit : Limit
zero_limit = Finite zero_number

abbrev pub is_finite_above_zero : Limit → Bool
is_finite_above_zero (Finite d) = not (is_at_most (Finite d) zero_limit)
is_finite_above_zero _ = false

-- the lower bound is at least 0, and the upper bound is finite and above 0
abbrev pub are_semi_bounds : Limit → Limit → Bool
are_semi_bounds lower upper = is_at_most zero_limit lower && is_finite_above_zero upper

-- upper minus lower, if both are finite, is a decimal with a magnitude below 10^20
abbrev pub has_bounded_distance : Limit → Limit → Bool
has_bounded_distance (Finite a) (Finite b) = option_map_or is_bounded_decimal (difference_of b a) false
has_bounded_distance _ _ = true
