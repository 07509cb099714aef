-- Number literals and their values.
use Rattle.std.specs.Prelude.{ℕ, ◌+◌, ◌-◌, ◌*◌, ◌^◌, ℤ, pos, neg_ℤ, ◌-ℤ◌, Bool, false, ◌&&◌, ◌||◌, not, nat_lt, nat_le, ◌==◌, if◌then◌else◌, List, [], ◌∷◌, ◌++◌, length, Result, Ok, Err}
use Rattle.std.specs.List.{list_any, list_all, before_first, after_first}
use Rattle.mpslp_decimal.specs.Decimal.{Number, normal, has_few_digits, has_small_exponent}
use Rattle.mpslp_decimal.specs.declared.literal.TheConstants.{MAX_LITERAL_LEN}
use Rattle.mpslp_decimal.specs.declared.literal.NumberFault.{NumberFault, TheVariants.BadNumber, TheVariants.LongNumber, TheVariants.TooManyDigits, TheVariants.ExponentRange}

abbrev pub is_digit : ℕ → Bool
is_digit byte = nat_le 48 byte && nat_le byte 57

abbrev pub is_sign : ℕ → Bool
is_sign byte = byte == 43 || byte == 45

abbrev pub is_point : ℕ → Bool
is_point byte = byte == 46

abbrev pub is_exponent_mark : ℕ → Bool
is_exponent_mark byte = byte == 101 || byte == 69

-- begins with a minus
abbrev pub is_minus : List ℕ → Bool
is_minus [] = false
is_minus (byte ∷ bytes) = byte == 45

abbrev pub without_sign : List ℕ → List ℕ
without_sign [] = []
without_sign (byte ∷ bytes) = if is_sign byte then bytes else byte ∷ bytes

-- each digit times its place
abbrev pub digits_sum : List ℕ → ℕ
digits_sum [] = 0
digits_sum (digit ∷ digits) = (digit - 48) * 10 ^ length digits + digits_sum digits

-- digits, and at least one
abbrev pub are_digits : List ℕ → Bool
are_digits bytes = nat_lt 0 (length bytes) && list_all is_digit bytes

abbrev pub to_signed : Bool → ℕ → ℤ
to_signed minus n = if minus then neg_ℤ (pos n) else pos n

-- the value of an optional sign and digits
abbrev pub signed_value : List ℕ → ℤ
signed_value text = to_signed (is_minus text) (digits_sum (without_sign text))

-- the part before the exponent part, without its sign
abbrev pub unsigned_part : List ℕ → List ℕ
unsigned_part text = without_sign (before_first is_exponent_mark text)

-- the digits after the point
abbrev pub fraction_digits : List ℕ → List ℕ
fraction_digits text = after_first is_point (unsigned_part text)

-- the digits with the point taken out
abbrev pub mantissa_digits : List ℕ → List ℕ
mantissa_digits text = before_first is_point (unsigned_part text) ++ fraction_digits text

-- what follows the `e` or `E`; empty if there is none
abbrev pub exponent_part : List ℕ → List ℕ
exponent_part text = after_first is_exponent_mark text

-- an optional sign, digits with an optional point, and an optional exponent part
abbrev pub is_literal : List ℕ → Bool
is_literal text = are_digits (mantissa_digits text)
    && (not (list_any is_exponent_mark text) || are_digits (without_sign (exponent_part text)))

-- the value of a literal, not in normal form
abbrev pub literal_value : List ℕ → Number
literal_value text = record {
  mantissa = to_signed (is_minus text) (digits_sum (mantissa_digits text));
  exponent = signed_value (exponent_part text) -ℤ pos (length (fraction_digits text));
}

-- the decimal with the value of a text, or its first error
abbrev pub number_of : List ℕ → Result Number NumberFault
number_of text =
    let value = normal (literal_value text) in
    if not (is_literal text) then Err BadNumber
    else (if nat_lt MAX_LITERAL_LEN (length text) then Err LongNumber
    else (if not (has_few_digits value) then Err TooManyDigits
    else (if not (has_small_exponent value) then Err ExponentRange
    else Ok value)))
