-- The order of decimals at the smaller of two exponents, and sums as whole numbers.
use Rattle.std.{proofs.{Common.{Bool, None, Some, arith, refl, sym, ℕ, ◌-◌, ◌^◌, ◌∙◌, ◌≡◌}, lemmas.Cmp.int_ranked}, specs.Cmp.int_cmp_is}
use Rattle.std.specs.{Ordering.int_cmp, Prelude.{if◌then◌else◌, ◌+ℤ◌, ◌↔◌}, declared.cmp.Ordering.TheVariants.Less}
use Rattle.mpslp_decimal.proofs.{NormalLemmas.pow_positive, OrderOfValues.{int_cmp-times, least-exponent, order-decimal, scaled-beside}}
use Rattle.mpslp_decimal.{proofs.{OrderOfValues.surplus-heights, ScaleLemmas.{normal-scaled, scaled-normal}}, specs.Decimal.IsDecimal}
use Rattle.mpslp_decimal.specs.{Decimal.{Number, at_scale, decimal_cmp, height, is_decimal, normal, scaled, sum_of}, Values.IsBelow}
use Rattle.mpslp_decimal.specs.Values.{mantissa_beside, order_of}

beside-cmp : (a b : Number) → IsDecimal a → IsDecimal b → int_cmp (mantissa_beside a b) (mantissa_beside b a) ≡ decimal_cmp a b
beside-cmp a b p q =
    let over = surplus-heights a.exponent b.exponent (least-exponent a p) (least-exponent b q) in
    let under = surplus-heights b.exponent a.exponent (least-exponent b q) (least-exponent a p) in
    let c : ℕ = height a.exponent - (height a.exponent - height b.exponent) in
    let left = scaled-beside a b c (omega (arith, over, under)) in
    let right = scaled-beside b a c (omega (arith, over, under)) in
    sym (int_cmp-times _ _ (10 ^ c) (pow_positive c)) ∙ (λ i. int_cmp (sym left i) (sym right i))

pub order-by_value : (a b : Number) → IsDecimal a → IsDecimal b → (order_of a b ≡ Less) ↔ IsBelow a b
order-by_value a b p q =
    let same = order-decimal a b p q ∙ sym (beside-cmp a b p q) in (
      (λ h. int_ranked _ _ Less (sym h ∙ same)),
      (λ below. same ∙ sym (int_cmp_is (mantissa_beside a b) (mantissa_beside b a) Less below)),
    )

pub sums-exact : (a b d : Number) → (sum_of a b ≡ Some d) ↔ (IsDecimal d × (scaled d ≡ scaled a +ℤ scaled b))
sums-exact a b d = (to (normal (at_scale (scaled a +ℤ scaled b))) _ refl (scaled-normal _), from)
  where
    to : (n : Number) (t : Bool) → is_decimal n ≡ t → scaled n ≡ scaled a +ℤ scaled b → (if t then Some n else None) ≡ Some d
        → IsDecimal d × (scaled d ≡ scaled a +ℤ scaled b)
    to = grind arith

    from : IsDecimal d × (scaled d ≡ scaled a +ℤ scaled b) → sum_of a b ≡ Some d
    from = grind (arith, normal-scaled)
