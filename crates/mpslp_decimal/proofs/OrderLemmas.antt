-- The order of values in terms of the pairs of two decimals.
use Rattle.std.{proofs.Common.{Bool, ap, arith, cond, false, sym, true, ◌∙◌, ◌≡◌}, specs.{FinMap.int_cmp-IsAntisymmetric, Ordering.int_cmp}}
use Rattle.std.specs.{Ordering.{is_eq, is_lt}, Prelude.{None, Some, neg_ℤ, not, ℤ, ◌+ℤ◌}}
use Rattle.mpslp_decimal.proofs.{NormalLemmas.pow_positive, ScaleLemmas.{negated_scaled, one_form, scaled-normal, signed_times}}
use Rattle.mpslp_decimal.specs.Decimal.{IsDecimal, Number, at_scale, decimal_cmp, difference_of, negated, normal, scaled, size_of}

pub same_decimal : (a b : Number) → IsDecimal a → IsDecimal b → is_eq (decimal_cmp a b) ≡ true → a ≡ b
same_decimal a b p q e = one_form a b p q (int_cmp-IsAntisymmetric (scaled a) (scaled b) (grind (arith, e)))

-- a number whose value is not negative is its own absolute value
own_size : (d : Number) (y x : ℤ) → scaled d ≡ y +ℤ neg_ℤ x → not (is_lt (int_cmp y x)) ≡ true → size_of d ≡ d
own_size = grind (arith, signed_times, pow_positive)

pub difference_size : (a b d : Number) → not (is_lt (decimal_cmp b a)) ≡ true → difference_of b a ≡ Some d → size_of d ≡ d
difference_size a b d h e = by _ e
  where
    same_Some : (x y : Number) → Some x ≡ Some y → x ≡ y
    same_Some x y e = cc

    by : (t : Bool) → cond t (Some (normal (at_scale (scaled b +ℤ scaled (negated a))))) None ≡ Some d → size_of d ≡ d
    by false is = cc
    by true is =
        own_size d _ (scaled a)
        (ap scaled (sym (same_Some _ _ is)) ∙ scaled-normal _ ∙ ap (λ (z : ℤ). scaled b +ℤ z) (negated_scaled a)) h
