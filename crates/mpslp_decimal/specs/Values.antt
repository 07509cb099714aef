-- Equal values, the order of decimals, and the literals that have, or have not, the value of a decimal.
use Rattle.std.specs.Prelude.{◌≡◌, ℕ, ◌^◌, ℤ, pos, negsuc, ◌-ℤ◌, ◌*ℤ◌, ◌<ℤ◌, ◌≤◌, IsTrue, List, length}
use Rattle.std.specs.Ordering.{int_cmp, on, then_cmp}
use Rattle.std.specs.declared.cmp.Ordering.{Ordering}
use Rattle.mpslp_decimal.specs.Decimal.{Number, decimal_cmp, IsDecimal, has_few_digits}
use Rattle.mpslp_decimal.specs.declared.literal.TheConstants.{MAX_LITERAL_LEN}
use Rattle.mpslp_decimal.specs.Literal.{is_literal, literal_value}

-- ---- the value of a number

-- a number that is not negative, and 0 for a negative one
abbrev pub natural_part : ℤ → ℕ
natural_part (pos n) = n
natural_part (negsuc _) = 0

-- the first exponent minus the second, or 0 if that is negative
abbrev pub surplus : ℤ → ℤ → ℕ
surplus e f = natural_part (e -ℤ f)

-- the mantissa of a number at the smaller one of its own exponent and another number's
abbrev pub mantissa_beside : Number → Number → ℤ
mantissa_beside a b = a.mantissa *ℤ pos (10 ^ surplus a.exponent b.exponent)

abbrev pub HasSameValue : Number → Number → Type 0
HasSameValue a b = mantissa_beside a b ≡ mantissa_beside b a

abbrev pub IsBelow : Number → Number → Type 0
IsBelow a b = mantissa_beside a b <ℤ mantissa_beside b a

-- by value; if the values are equal, which those of different decimals never are, by the parts
abbrev pub order_of : Number → Number → Ordering
order_of = then_cmp decimal_cmp (then_cmp (on (λ d. d.mantissa) int_cmp) (on (λ d. d.exponent) int_cmp))

-- The text is a literal within the limit of its length, and the decimal has its value.
pub record Spells (text : List ℕ) (d : Number) : Type 0 where
  pub literal : IsTrue (is_literal text)
  pub short : length text ≤ MAX_LITERAL_LEN
  pub decimal : IsDecimal d
  pub value : HasSameValue (literal_value text) d

-- ---- literals whose value is not that of a decimal

-- No number of at most 36 digits has the value of the literal, whatever the exponent of the number.
pub record HasTooManyDigits (text : List ℕ) : Type 0 where
  pub literal : IsTrue (is_literal text)
  pub short : length text ≤ MAX_LITERAL_LEN
  pub many : (d : Number) → IsTrue (has_few_digits d) → HasSameValue (literal_value text) d → ⊥

-- A number of at most 36 digits has the value of the literal, but no decimal does.
pub record HasExponentOutOfRange (text : List ℕ) : Type 0 where
  pub literal : IsTrue (is_literal text)
  pub short : length text ≤ MAX_LITERAL_LEN
  pub few : (d : Number) × (IsTrue (has_few_digits d) × HasSameValue (literal_value text) d)
  pub out : (d : Number) → IsDecimal d → HasSameValue (literal_value text) d → ⊥
