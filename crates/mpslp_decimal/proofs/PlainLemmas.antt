-- A literal whose digits fit in 64 bits, and a text of an optional sign and digits, the last of which is not 0.
use Rattle.std.proofs.Common.{Bool, List, [], ap, arith, length, refl, true, ℕ, ◌%◌, ◌<◌, ◌^◌, get_or, length-append}
use Rattle.std.proofs.Common.{subst, sym, ℤ, ◌∷◌, ◌≡◌, ◌≤ℤ◌, ◌≤◌}
use Rattle.std.specs.Prelude.{Ok, Some, pos, ◌==◌}
use Rattle.mpslp_decimal.proofs.{GrammarLemmas.{scanned, short-zeros, within}, NormalLemmas.decimal_at, SpellsLemmas.number-few}
use Rattle.mpslp_decimal.specs.declared.number.TheConstants.{MAX_EXPONENT, MIN_EXPONENT}
use Rattle.mpslp_decimal.specs.{Decimal.{Number, zero_number}, Literal.{digits_sum, is_minus, number_of, without_sign}}
use Rattle.mpslp_decimal.specs.Scan.{after_digits, exponent_after}
use Rattle.mpslp_decimal.specs.Scan.{IsScanOf, IsStripped, after_mantissa, digits_front, fraction_front, in_range, mantissa_front}
use Rattle.mpslp_decimal.specs.declared.literal.{Scan.Scan, Significand.TheVariants.Short}

pub empty : (xs : List ℕ) → (length xs == 0) ≡ true → xs ≡ []
empty [] h = refl
empty (x ∷ xs) h = grind arith

pub some-digits : (xs : List ℕ) (n : ℕ) → n ≡ digits_sum xs → 0 < n → 0 < length xs
some-digits [] n e h = omega (arith, e, h)
some-digits (x ∷ xs) n e h = omega arith

pub no-fraction : (text rest : List ℕ) → rest ≡ after_digits text → rest ≡ [] → fraction_front text ≡ []
no-fraction = grind arith

at-end : (text rest : List ℕ) → rest ≡ after_digits text → rest ≡ [] → rest ≡ after_mantissa text
at-end = grind arith

pub positive : (n : ℕ) → (n ≡ 0 → ⊥) → 0 < n
positive = grind arith

-- ---- What is read of a literal of few digits.

abbrev pub short-scan : Bool → ℕ → ℕ → ℕ → ℤ → Scan
short-scan minus m z places exponent =
    record { is_negative = minus; significand = Short m z; places = places; exponent = exponent }

pub short-scanned : (text unsigned rest : List ℕ) (minus : Bool) (n m z places : ℕ) (exponent : ℤ) → minus ≡ is_minus text
    → unsigned ≡ without_sign text → rest ≡ after_mantissa unsigned → n ≡ digits_sum (mantissa_front unsigned)
    → 0 < length (mantissa_front unsigned) → places ≡ length (fraction_front unsigned) → exponent_after rest ≡ Some exponent
    → IsStripped n m z → m < 10 ^ 36 → z ≤ length unsigned → IsScanOf (short-scan minus m z places exponent) text
short-scanned text unsigned rest minus n m z places exponent signed is after value some fraction power stripped few zeros =
    scanned (short-scan minus m z places exponent) text unsigned rest exponent (length (mantissa_front unsigned)) is after power
    (subst (λ n. IsStripped n m z) value stripped, few) refl some fraction refl signed (within unsigned) zeros
    (omega (arith, fraction, length-append (digits_front unsigned) (fraction_front unsigned), within unsigned))

-- the same of a number that is not 0, without its trailing zeros
pub stripped-scanned : (text unsigned rest : List ℕ) (minus : Bool) (n m z places : ℕ) (exponent : ℤ) → minus ≡ is_minus text
    → unsigned ≡ without_sign text → rest ≡ after_mantissa unsigned → n ≡ digits_sum (mantissa_front unsigned) → (n ≡ 0 → ⊥)
    → places ≡ length (fraction_front unsigned) → exponent_after rest ≡ Some exponent → IsStripped n m z → m < 2 ^ 64
    → IsScanOf (short-scan minus m z places exponent) text
stripped-scanned text unsigned rest minus n m z places exponent signed is after value some fraction power stripped few =
    let above = positive n some in
    short-scanned text unsigned rest minus n m z places exponent signed is after value (some-digits _ n value above)
    fraction power stripped (omega (arith, few)) (short-zeros unsigned n m z value stripped above)

pub plain-number : (text unsigned rest : List ℕ) (minus : Bool) (n : ℕ) → minus ≡ is_minus text → unsigned ≡ without_sign text
    → rest ≡ after_digits unsigned → rest ≡ [] → n ≡ digits_sum (mantissa_front unsigned) → 0 < n % 10 → n < 10 ^ 36 →
    length text ≤ 255 → number_of text ≡ in_range (decimal_at minus n (pos 0))
plain-number text unsigned rest minus n signed is after none value ends few short =
    let scan = short-scanned text unsigned rest minus n n 0 0 (pos 0) signed is (at-end unsigned rest after none) value
    (some-digits _ n value (omega (arith, ends))) (sym (ap length (no-fraction unsigned rest after none)))
    (ap exponent_after none) (record { value = omega arith; ends = λ _. ends }) few (omega arith) in
    sym (number-few (short-scan minus n 0 0 (pos 0)) text n 0 (pos 0) scan refl (λ e. absurd (omega (arith, e, ends))) short refl)

pub within-range : (d : Number) → MIN_EXPONENT ≤ℤ d.exponent → d.exponent ≤ℤ MAX_EXPONENT → in_range d ≡ Ok d
within-range = grind arith

pub zero-text : (text : List ℕ) → length text ≡ 1 → get_or text 0 0 ≡ 48 → number_of text ≡ Ok zero_number
zero-text [] one zero = absurd (omega (arith, one))
zero-text (x ∷ []) one zero = ap (λ b. number_of (b ∷ [])) zero
zero-text (x ∷ y ∷ more) one zero = absurd (omega (arith, one))
