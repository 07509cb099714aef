-- The normal form of digits with zeros after them.
use Rattle.std.{proofs.Common.{Bool, ap, arith, pow-suc, suc, true, zero, ℕ, ◌%◌, ◌*◌, ◌<◌, ◌^◌, ◌∙◌, ◌≡◌}, specs.Prelude.{int_div, pos}}
use Rattle.std.specs.Prelude.{unsigned_abs, ℤ, ◌-ℤ◌, ◌==◌}
use Rattle.mpslp_decimal.specs.{Decimal.{Number, normal, trailing_zeros, zeros_within}, Literal.to_signed}

-- a number by its sign, the size of its mantissa and its exponent
abbrev pub decimal_at : Bool → ℕ → ℤ → Number
decimal_at minus m e = record { mantissa = to_signed minus m; exponent = e }

zeros_none : (most n : ℕ) → 0 < n % 10 → zeros_within most n ≡ 0
zeros_none = grind arith

pub zeros_within-tens : (k most m : ℕ) → 0 < m % 10 → k < most → zeros_within most (m * 10 ^ k) ≡ k
zeros_within-tens (suc k) (suc most) m h l =
    let shift : m * 10 ^ suc k ≡ (m * 10 ^ k) * 10 = rw pow-suc (grind arith) in
    ap (zeros_within (suc most)) shift ∙ step _ ∙ ap suc (zeros_within-tens k most m h (omega arith))
  where
    step : (n : ℕ) → zeros_within (suc most) (n * 10) ≡ suc (zeros_within most n)
    step = grind arith
zeros_within-tens _ _ m h l = grind (arith, zeros_none)

pub trailing-tens : (k m : ℕ) → 0 < m % 10 → k < 1100 → trailing_zeros (m * 10 ^ k) ≡ k
unfolding trailing_zeros
trailing-tens k m h l = zeros_within-tens k 1100 m h l

pub size-signed : (minus : Bool) (n : ℕ) → unsigned_abs (to_signed minus n) ≡ n
size-signed = grind arith

pub pow_positive : (k : ℕ) → 0 < 10 ^ k
pow_positive zero = omega arith
pow_positive (suc k) = grind (arith, pow-suc, pow_positive k)

signed_div : (minus : Bool) (m p : ℕ) → 0 < p → int_div (to_signed minus (m * p)) (pos p) ≡ to_signed minus m
signed_div = grind arith

pub zero_mantissa : (m : ℤ) → (unsigned_abs m == 0) ≡ true → m ≡ pos 0
zero_mantissa = grind arith

-- digits with k zeros after them, at an exponent smaller by k
pub normal-tens : (minus : Bool) (m k : ℕ) (e : ℤ) → 0 < m % 10 → k < 1100
    → normal (record { mantissa = to_signed minus (m * 10 ^ k); exponent = e -ℤ pos k })
    ≡ record { mantissa = to_signed minus m; exponent = e }
normal-tens = grind (arith, pow_positive, size-signed, trailing-tens, signed_div)
