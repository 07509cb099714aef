-- The digits of whole numbers, as they are looked up, and a number by its digits.
use Rattle.std.proofs.Common.{◌≡◌, ap, arith, decimal, drop, false, pos, negsuc, refl, sym, take, true, unsigned_abs, ◌∙◌, ℕ, ℤ}
use Rattle.std.proofs.Common.{Bool, List, [], ◌∷◌, ◌++◌, ◌+◌, ◌-◌, ◌*◌, ◌/◌, ◌%◌, ◌<◌, ◌≤◌}
use Rattle.std.proofs.lemmas.{Bool.Decides.{Decides-eqb}, Fmt.{decimal_digit, decimal_step}}
use Rattle.std.specs.{Bool.{nat_eq}, Cmp.Lexicographic.{pointwise, pointwise_decides}}
use Rattle.mpslp_decimal.proofs.{NumberTextLemmas.{integer-text}, TableLemmas.{holds-at, holds_below}}
use Rattle.mpslp_decimal.specs.{Decimal.{Number, is_negative, size_of}, NumberText.{number_text}}
use Rattle.mpslp_io.specs.declared.numbers.TheConstants.{PAIRS, NEGATIVES}

-- the bytes of a table from one place up to another
abbrev pub part : List ℕ → ℕ → ℕ → List ℕ
part table from to = take (to - from) (drop from table)

-- the parts of a table are what they are wanted to be, which is computed
abbrev are_parts : List ℕ → (from to : ℕ → ℕ) (wanted : ℕ → List ℕ) → ℕ → Bool
are_parts table from to wanted n = pointwise nat_eq (part table (from n) (to n)) (wanted n)

parts-are : (table : List ℕ) (from to : ℕ → ℕ) (wanted : ℕ → List ℕ) (count n : ℕ)
    → holds_below (are_parts table from to wanted) count ≡ true → n < count → part table (from n) (to n) ≡ wanted n
parts-are table from to wanted count n all below =
    (pointwise_decides Decides-eqb _ _).0 (holds-at (are_parts table from to wanted) count all n below)

pub one-digit : (n : ℕ) → n < 10 → part PAIRS.now (2 * n + 1) (2 * n + 2) ≡ decimal n
unfolding holds_below
one-digit n small =
    parts-are PAIRS.now (λ n. 2 * n + 1) (λ n. 2 * n + 2) (λ n. (48 + n) ∷ []) 10 n refl small ∙ sym (decimal_digit n small)

pub two-digits : (n : ℕ) → 10 ≤ n → n < 100 → part PAIRS.now (2 * n) (2 * n + 2) ≡ decimal n
unfolding holds_below
two-digits n large small =
    parts-are PAIRS.now (λ n. 2 * n) (λ n. 2 * n + 2) (λ n. (48 + n / 10) ∷ (48 + n % 10) ∷ []) 100 n refl small
    ∙ ap (λ (ds : List ℕ). ds ++ (48 + n % 10) ∷ []) (sym (decimal_digit (n / 10) (omega arith)))
    ∙ sym (decimal_step n large (omega arith))

negative-digit : (n : ℕ) → n < 10 → part NEGATIVES.now (2 * n) (2 * n + 2) ≡ 45 ∷ decimal n
unfolding holds_below
negative-digit n small =
    parts-are NEGATIVES.now (λ n. 2 * n) (λ n. 2 * n + 2) (λ n. 45 ∷ (48 + n) ∷ []) 10 n refl small
    ∙ ap (λ (ds : List ℕ). 45 ∷ ds) (sym (decimal_digit n small))

-- ---- the texts of whole numbers, by their absolute value

pub size-text : (value : Number) (n : ℕ) → unsigned_abs value.mantissa ≡ n → value.exponent ≡ pos 0
    → decimal n ≡ number_text (size_of value)
size-text value n is whole = integer-text (size_of value) (pos n) (ap (λ (m : ℕ). pos m) is) whole

pub positive-text : (value : Number) (n : ℕ) → is_negative value ≡ false → unsigned_abs value.mantissa ≡ n → value.exponent ≡ pos 0
    → decimal n ≡ number_text value
positive-text value n positive is whole = by value.mantissa refl positive is
  where
    by : (m : ℤ) → value.mantissa ≡ m → is_negative value ≡ false → unsigned_abs value.mantissa ≡ n → decimal n ≡ number_text value
    by (pos k) m p e = ap (λ (m : ℕ). decimal m) (sym (sym (ap unsigned_abs m) ∙ e)) ∙ integer-text value (pos k) m whole
    by (negsuc k) m p e = absurd grind (arith, m, p)

pub negative-text : (value : Number) (n : ℕ) → is_negative value ≡ true → unsigned_abs value.mantissa ≡ n → value.exponent ≡ pos 0
    → n < 10 → part NEGATIVES.now (2 * n) (2 * n + 2) ≡ number_text value
negative-text value n negative is whole small = negative-digit n small ∙ by value.mantissa refl negative is
  where
    by : (m : ℤ) → value.mantissa ≡ m → is_negative value ≡ true → unsigned_abs value.mantissa ≡ n → 45 ∷ decimal n ≡ number_text value
    by (pos k) m p e = absurd grind (arith, m, p)
    by (negsuc k) m p e =
        ap (λ (m : ℕ). 45 ∷ decimal m) (sym (sym (ap unsigned_abs m) ∙ e)) ∙ integer-text value (negsuc k) m whole
