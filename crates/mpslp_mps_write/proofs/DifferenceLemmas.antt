-- A difference is 0 if and only if both numbers have the same value.
use Rattle.std.proofs.Common.{◌≡◌, ap, ◌∙◌, ℕ, ◌^◌, ◌<◌, true, arith}
use Rattle.std.specs.{Prelude.{Some, ℤ, pos, ◌+ℤ◌, ◌*ℤ◌, neg_ℤ, unsigned_abs, ◌==◌}, Ordering.{is_eq, int_cmp}}
use Rattle.mpslp_decimal.specs.Decimal.{Number, is_zero, height, scaled, negated, difference_of, have_same_value}
use Rattle.mpslp_decimal.proofs.{NormalLemmas.{pow_positive}, ScaleLemmas.{negated_scaled}, ExactLaws.{sums-exact}}

abbrev times : Number → ℕ
times d = 10 ^ height d.exponent

zero-mantissa : (m : ℤ) (p : ℕ) → 0 < p → m *ℤ pos p ≡ pos 0 → (unsigned_abs m == 0) ≡ true
zero-mantissa = grind arith

zero-scaled : (d : Number) → scaled d ≡ pos 0 → is_zero d ≡ true
zero-scaled = grind (arith, zero-mantissa, pow_positive)

scaled-zero : (d : Number) → is_zero d ≡ true → scaled d ≡ pos 0
scaled-zero = grind arith

units : (a b d : Number) → difference_of b a ≡ Some d → scaled d ≡ scaled b +ℤ neg_ℤ (scaled a)
units a b d e = ((sums-exact b (negated a) d).0 e).1 ∙ ap (λ (z : ℤ). scaled b +ℤ z) (negated_scaled a)

same-units : (x y : ℤ) → is_eq (int_cmp x y) ≡ true → y +ℤ neg_ℤ x ≡ pos 0
same-units = grind arith

units-same : (x y : ℤ) → y +ℤ neg_ℤ x ≡ pos 0 → is_eq (int_cmp x y) ≡ true
units-same = grind arith

pub difference-zero : (a b d : Number) → difference_of b a ≡ Some d → is_zero d ≡ have_same_value a b
difference-zero = grind (arith, zero-scaled, units, same-units, units-same, scaled-zero)
