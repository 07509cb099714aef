-- What a single pass finds in a literal.
use Rattle.std.specs.Prelude.{◌≡◌, ℕ, ◌+◌, ◌*◌, ◌^◌, ◌%◌, ◌<◌, ◌≤◌, ℤ, pos, Option, Some, None, Result, Ok, Err, min, IsTrue, if◌then◌else◌, List, [], ◌∷◌, ◌++◌, length, take, drop}
use Rattle.std.specs.List.{prefix_len}
use Rattle.mpslp_decimal.specs.Literal.{is_digit, is_point, is_exponent_mark, are_digits, is_minus, without_sign, to_signed, digits_sum, mantissa_digits, fraction_digits, exponent_part, is_literal}
use Rattle.mpslp_decimal.specs.declared.number.TheConstants.{MAX_DIGITS}
use Rattle.mpslp_decimal.specs.declared.literal.TheConstants.{EXPONENT_CAP}
use Rattle.mpslp_decimal.specs.Decimal.{Number, has_small_exponent}
use Rattle.mpslp_decimal.specs.declared.literal.NumberFault.{NumberFault}
use Rattle.mpslp_decimal.specs.declared.literal.NumberFault.TheVariants.{ExponentRange}
use Rattle.mpslp_decimal.specs.declared.literal.Significand.{Significand}
use Rattle.mpslp_decimal.specs.declared.literal.Significand.TheVariants.{Short, Long, Many}
use Rattle.mpslp_decimal.specs.declared.literal.Scan.{Scan}

-- a number without its trailing zeros, and their number
pub record IsStripped (n mantissa zeros : ℕ) : Type 0 where
  pub value : mantissa * 10 ^ zeros ≡ n
  pub ends : 0 < n → 0 < mantissa % 10

-- the significand of a number: the number stripped, or that this has too many digits
abbrev pub IsSignificandOf : Significand → ℕ → Type 0
IsSignificandOf (Short mantissa zeros) n = IsStripped n mantissa zeros × (mantissa < 10 ^ MAX_DIGITS)
IsSignificandOf (Long mantissa zeros) n = IsStripped n mantissa zeros × (mantissa < 10 ^ MAX_DIGITS)
IsSignificandOf Many n = (mantissa : ℕ) × (zeros : ℕ) × (IsStripped n mantissa zeros × (10 ^ MAX_DIGITS ≤ mantissa))

-- the stripped number and how many zeros it lost, unless it has too many digits
abbrev pub parts_of : Significand → Option (ℕ × ℕ)
parts_of (Short mantissa zeros) = Some (mantissa, zeros)
parts_of (Long mantissa zeros) = Some (mantissa, zeros)
parts_of Many = None

abbrev pub zeros_of : Significand → ℕ
zeros_of (Short mantissa zeros) = zeros
zeros_of (Long mantissa zeros) = zeros
zeros_of Many = 0

-- the exponent, with a magnitude of at most the cap
abbrev pub capped_exponent : List ℕ → ℤ
capped_exponent text = to_signed (is_minus text) (min (digits_sum (without_sign text)) EXPONENT_CAP)

-- the digits with which a text begins, and what follows them
abbrev pub digits_front : List ℕ → List ℕ
digits_front text = take (prefix_len is_digit text) text

abbrev pub after_digits : List ℕ → List ℕ
after_digits text = drop (prefix_len is_digit text) text

-- a number with the digits appended with which a text begins
abbrev pub appended : ℕ → List ℕ → ℕ
appended n text = n * 10 ^ length (digits_front text) + digits_sum (digits_front text)

-- A number and a text that stand for another number and text: the digits of both are the same, appended to the numbers.
pub record IsLeft (n : ℕ) (text : List ℕ) (m : ℕ) (rest : List ℕ) : Type 0 where
  pub same_rest : after_digits rest ≡ after_digits text
  pub same_value : appended m rest ≡ appended n text

-- what follows a point at the start of a text
abbrev pub after_point : List ℕ → List ℕ
after_point [] = []
after_point (byte ∷ bytes) = if is_point byte then bytes else []

-- the digits after a point that follows the first digits, these digits together, and what follows them
abbrev pub fraction_front : List ℕ → List ℕ
fraction_front text = digits_front (after_point (after_digits text))

abbrev pub mantissa_front : List ℕ → List ℕ
mantissa_front text = digits_front text ++ fraction_front text

abbrev pub after_fraction : List ℕ → List ℕ
after_fraction [] = []
after_fraction (byte ∷ bytes) = if is_point byte then after_digits bytes else byte ∷ bytes

abbrev pub after_mantissa : List ℕ → List ℕ
after_mantissa text = after_fraction (after_digits text)

-- the exponent that an optional sign and digits represent
abbrev pub exponent_of : List ℕ → Option ℤ
exponent_of text = if are_digits (without_sign text) then Some (capped_exponent text) else None

-- the exponent after a mantissa
abbrev pub exponent_after : List ℕ → Option ℤ
exponent_after [] = Some (pos 0)
exponent_after (byte ∷ bytes) = if is_exponent_mark byte then exponent_of bytes else None

-- the decimal, if its exponent is in range
abbrev pub in_range : Number → Result Number NumberFault
in_range d = if has_small_exponent d then Ok d else Err ExponentRange

-- The text is a literal, and these are its parts.
pub record IsScanOf (scan : Scan) (text : List ℕ) : Type 0 where
  pub literal : IsTrue (is_literal text)
  pub negative : scan.is_negative ≡ is_minus text
  pub significand : IsSignificandOf scan.significand (digits_sum (mantissa_digits text))
  pub places : scan.places ≡ length (fraction_digits text)
  pub exponent : scan.exponent ≡ capped_exponent (exponent_part text)
  pub digits_within : length (mantissa_digits text) ≤ length text
  pub zeros_within : zeros_of scan.significand ≤ length text
  pub places_within : scan.places ≤ length text
