-- Sums and differences at one scale, and that adding a difference gives the number back.
use Rattle.std.proofs.Common.{Bool, ap, arith, cond, false, pow-suc, refl, suc, sym, true, zero, ℕ, ◌%◌, ◌*◌, ◌/◌, ◌<◌, ◌^◌, ◌∙◌, ◌≡◌}
use Rattle.std.{proofs.lemmas.Int.ints, specs.Prelude.{None, Some, if◌then◌else◌, int_le, neg_ℤ, negsuc, pos, unsigned_abs, ℤ, ◌*ℤ◌, ◌+ℤ◌}}
use Rattle.std.specs.Prelude.{◌-ℤ◌}
use Rattle.mpslp_decimal.proofs.{NormalLemmas.{normal-tens, pow_positive, zero_mantissa}, NumberTextLemmas.{nonzero-ends, signed-size}}
use Rattle.mpslp_decimal.specs.Decimal.{IsDecimal, Number, at_scale, difference_of, height, is_decimal, is_zero, negated, normal, scaled}
use Rattle.mpslp_decimal.specs.{Decimal.{sum_of, trailing_zeros, zeros_within}, Literal.to_signed}

pub height_back : (e : ℤ) → int_le (negsuc 499) e ≡ true → e -ℤ pos (height e) ≡ negsuc 499
height_back = grind arith

pub signed_times : (minus : Bool) (m p : ℕ) → to_signed minus m *ℤ pos p ≡ to_signed minus (m * p)
signed_times = grind arith

pub exponents-of : (d : Number) → IsDecimal d → (int_le (negsuc 499) d.exponent ≡ true) × (int_le d.exponent (pos 500) ≡ true)
exponents-of = grind arith

-- the decimal of its mantissa at the least exponent is itself
pub normal-scaled : (d : Number) → IsDecimal d → normal (at_scale (scaled d)) ≡ d
normal-scaled d ok = by _ refl
  where
    minus : Bool
    minus = int_le d.mantissa (negsuc 0)

    size : ℕ
    size = unsigned_abs d.mantissa

    by : (b : Bool) → is_zero d ≡ b → normal (at_scale (scaled d)) ≡ d
    by true z = grind arith
    by false z =
        let s = ap (λ m. m *ℤ pos (10 ^ height d.exponent)) (sym (signed-size _)) ∙ signed_times minus size _ in
        (λ i. normal (record { mantissa = s i; exponent = sym (height_back d.exponent (exponents-of d ok).0) i }))
        ∙ normal-tens minus size _ _ (nonzero-ends d ok z) (grind (arith, (exponents-of d ok).1))
        ∙ (λ i. record { mantissa = signed-size d.mantissa i; exponent = d.exponent })

-- decimals with the same value are equal
pub one_form : (a b : Number) → IsDecimal a → IsDecimal b → scaled a ≡ scaled b → a ≡ b
one_form a b p q e = sym (normal-scaled a p) ∙ ap (λ m. normal (at_scale m)) e ∙ normal-scaled b q

-- the zeros that are stripped were there
regroup : (k p : ℕ) → (k * p) * 10 ≡ k * (p * 10)
regroup = grind arith

divided_by : (k n p : ℕ) → 0 < p → k * p ≡ n → (n / p) * p ≡ n
divided_by = grind arith

divided_more : (z n : ℕ) → n % 10 ≡ 0 → ((n / 10) / 10 ^ z) * 10 ^ z ≡ n / 10 → (n / 10 ^ suc z) * 10 ^ suc z ≡ n
divided_more = grind (arith, pow-suc, regroup, divided_by, pow_positive)

divided : (most n : ℕ) → (n / 10 ^ zeros_within most n) * 10 ^ zeros_within most n ≡ n
divided zero n = omega arith
divided (suc most) n = grind (arith, divided_more, divided most (n / 10))

divided_all : (n : ℕ) → (n / 10 ^ trailing_zeros n) * 10 ^ trailing_zeros n ≡ n
unfolding trailing_zeros
divided_all n = divided 1100 n

-- stripping zeros keeps the value
pub scaled-normal : (m : ℤ) → scaled (normal (at_scale m)) ≡ m
scaled-normal = grind (arith, zero_mantissa, divided_all)

pub negated_scaled : (d : Number) → scaled (negated d) ≡ neg_ℤ (scaled d)
negated_scaled d = grind arith

-- lower plus (upper minus lower) is upper
pub sum-difference : (a b d : Number) → IsDecimal a → IsDecimal b → difference_of b a ≡ Some d → sum_of a d ≡ Some b
sum-difference a b d p q e = by _ e
  where
    same_Some : (x y : Number) → Some x ≡ Some y → x ≡ y
    same_Some x y e = cc

    by : (t : Bool) → cond t (Some (normal (at_scale (scaled b +ℤ scaled (negated a))))) None ≡ Some d → sum_of a d ≡ Some b
    by false is = cc
    by true is =
        let d_is = sym (same_Some _ _ is) in
        let value = ap scaled d_is ∙ scaled-normal _ in
        let minus = negated_scaled a in
        let total : scaled a +ℤ scaled d ≡ scaled b = ap (λ x. scaled a +ℤ x) value ∙ ap (λ x. scaled a +ℤ (scaled b +ℤ x)) minus
        ∙ omega (arith, ints) in
        let back = ap (λ m. normal (at_scale m)) total ∙ normal-scaled b q in
        ap (λ x. if is_decimal x then Some x else None) back ∙ ap (λ t. cond t (Some b) None) q
