-- Decimals and their values.
use Rattle.std.specs.Prelude.{ℕ, zero, suc, ◌+◌, ◌-◌, ◌/◌, ◌%◌, ◌^◌, ℤ, pos, negsuc, ◌+ℤ◌, ◌*ℤ◌, neg_ℤ, unsigned_abs, int_le, int_div, Bool, ◌&&◌, not, nat_lt, ◌==◌, if◌then◌else◌, IsTrue, Option, Some, None}
use Rattle.std.specs.Ordering.{int_cmp, int_eq, is_eq, on}
use Rattle.std.specs.declared.cmp.Ordering.{Ordering}
use Rattle.mpslp_decimal.specs.declared.number.TheConstants.{MAX_DIGITS, MIN_EXPONENT, MAX_EXPONENT}

-- mantissa times ten to the exponent
pub record Number : Type 0 where
  pub mantissa : ℤ
  pub exponent : ℤ

abbrev pub zero_number : Number
zero_number = record { mantissa = pos 0; exponent = pos 0 }

abbrev pub one_number : Number
one_number = record { mantissa = pos 1; exponent = pos 0 }

abbrev pub is_zero : Number → Bool
is_zero d = unsigned_abs d.mantissa == 0

abbrev pub is_negative : Number → Bool
is_negative d = int_le d.mantissa (negsuc 0)

-- ---- decimals: the numbers that a `Decimal` can have

abbrev pub has_few_digits : Number → Bool
has_few_digits d = nat_lt (unsigned_abs d.mantissa) (10 ^ MAX_DIGITS)

abbrev pub has_small_exponent : Number → Bool
has_small_exponent d = int_le MIN_EXPONENT d.exponent && int_le d.exponent MAX_EXPONENT

-- the mantissa does not end in a zero, or both parts are 0
abbrev pub is_normal : Number → Bool
is_normal d = if is_zero d then int_eq d.exponent (pos 0) else not (unsigned_abs d.mantissa % 10 == 0)

abbrev pub is_decimal : Number → Bool
is_decimal d = has_few_digits d && (has_small_exponent d && is_normal d)

abbrev pub IsDecimal : Number → Type 0
IsDecimal d = IsTrue (is_decimal d)

-- ---- normal form

-- the number of trailing zeros, at most `most`
abbrev pub zeros_within : ℕ → ℕ → ℕ
zeros_within zero n = 0
zeros_within (suc most) n = elim (n % 10) [ zero ↦ suc (zeros_within most (n / 10)) | suc _ ↦ 0 ]

-- The number of trailing zeros of a number other than 0. No literal within the limit of its length and no sum of decimals
-- has more than 1,100 digits.
unfoldable pub trailing_zeros : ℕ → ℕ
trailing_zeros n = zeros_within 1100 n

-- the same value, with a mantissa without trailing zeros
abbrev pub normal : Number → Number
normal d =
    let zeros = trailing_zeros (unsigned_abs d.mantissa) in
    if is_zero d then zero_number
    else record { mantissa = int_div d.mantissa (pos (10 ^ zeros)); exponent = d.exponent +ℤ pos zeros }

-- the decimal of this value, if there is one
abbrev pub decimal_of : Number → Option Number
decimal_of d = if is_decimal (normal d) then Some (normal d) else None

-- ---- calculations with decimals, exact at the least exponent of any

-- how far the least exponent of a decimal is below 0
abbrev pub depth : ℕ
depth = 500

-- how far an exponent of a decimal is above the least one
abbrev pub height : ℤ → ℕ
height (pos n) = n + depth
height (negsuc n) = (depth - 1) - n

-- the mantissa of a decimal at the least exponent
abbrev pub scaled : Number → ℤ
scaled d = d.mantissa *ℤ pos (10 ^ height d.exponent)

-- this number of units of the least exponent
abbrev pub at_scale : ℤ → Number
at_scale units = record { mantissa = units; exponent = MIN_EXPONENT }

abbrev pub decimal_cmp : Number → Number → Ordering
decimal_cmp = on scaled int_cmp

abbrev pub have_same_value : Number → Number → Bool
have_same_value a b = is_eq (decimal_cmp a b)

abbrev pub negated : Number → Number
negated d = record d { mantissa = neg_ℤ d.mantissa }

abbrev pub size_of : Number → Number
size_of d = record d { mantissa = pos (unsigned_abs d.mantissa) }

-- the sum and the difference, if they are decimals
abbrev pub sum_of : Number → Number → Option Number
sum_of a b = decimal_of (at_scale (scaled a +ℤ scaled b))

abbrev pub difference_of : Number → Number → Option Number
difference_of a b = sum_of a (negated b)

-- 1e20 at the least exponent
abbrev pub scaled_infinity : ℤ
scaled_infinity = pos (10 ^ (20 + depth))

-- the magnitude is at least 1e20
abbrev pub is_infinite_size : Number → Bool
is_infinite_size d = int_le scaled_infinity (scaled (size_of d))
