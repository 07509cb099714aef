-- The order of values, counted in units of any exponent.
use Rattle.std.proofs.Common.{ap, arith, refl, suc, sym, true, zero, ℕ, ◌*◌, ◌+◌, ◌-◌, ◌<◌, ◌^◌, ◌∙◌, ◌≡◌, ◌≤◌}
use Rattle.std.{proofs.{Math.Nat.pow-le-pow_right, lemmas.{Cmp.int_ranked, Int.ints, Nat.pow-add}}, specs.Ordering.{int_cmp, on}}
use Rattle.std.specs.{Ordering.{ordering_reverse, then_cmp}, Prelude.{int_le, negsuc, pos, unsigned_abs, ℤ, ◌*ℤ◌, ◌-ℤ◌, ◌<ℤ◌, ◌≤ℤ◌}}
use Rattle.std.specs.declared.cmp.Ordering.{Ordering, TheVariants.Equal}
use Rattle.mpslp_decimal.proofs.{NormalLemmas.pow_positive, NumberTextLemmas.signed-size, ScaleLemmas.{one_form, signed_times}}
use Rattle.mpslp_decimal.proofs.StripLemmas.{ten_positive}
use Rattle.mpslp_decimal.specs.{Decimal.{IsDecimal, Number, decimal_cmp, height, scaled}, Values.{HasSameValue, mantissa_beside, order_of}}
use Rattle.mpslp_decimal.specs.Values.{surplus}

-- the distance of two exponents, by their heights above the least exponent
pub surplus-heights : (e f : ℤ) → int_le (negsuc 499) e ≡ true → int_le (negsuc 499) f ≡ true → surplus e f ≡ height e - height f
surplus-heights = grind arith

regroup : (n p q : ℕ) → (n * p) * q ≡ n * (p * q)
regroup = grind arith

-- a product with two powers, one after the other
pub times_twice : (m : ℤ) (p q : ℕ) → (m *ℤ pos p) *ℤ pos q ≡ m *ℤ pos (p * q)
times_twice = grind (arith, signed-size, signed_times, regroup)

pub least-exponent : (d : Number) → IsDecimal d → int_le (negsuc 499) d.exponent ≡ true
least-exponent = grind arith

-- relative to another decimal, and then at the least exponent
pub scaled-beside : (a b : Number) (c : ℕ) → surplus a.exponent b.exponent + c ≡ height a.exponent
    → scaled a ≡ mantissa_beside a b *ℤ pos (10 ^ c)
scaled-beside = grind (arith, pow-add, times_twice)

pub scaled-same : (a b : Number) → IsDecimal a → IsDecimal b → HasSameValue a b → scaled a ≡ scaled b
scaled-same a b p q same =
    let over : surplus a.exponent b.exponent ≡ height a.exponent - height b.exponent =
    surplus-heights _ _ (least-exponent a p) (least-exponent b q) in
    let under : surplus b.exponent a.exponent ≡ height b.exponent - height a.exponent =
    surplus-heights _ _ (least-exponent b q) (least-exponent a p) in
    let c : ℕ = height a.exponent - (height a.exponent - height b.exponent) in
    scaled-beside a b c (omega (arith, over)) ∙ ap (λ z. z *ℤ pos (10 ^ c)) same
    ∙ sym (scaled-beside b a c (omega (arith, under)))

pub same-value : (a b : Number) → IsDecimal a → IsDecimal b → HasSameValue a b → a ≡ b
same-value a b p q same = one_form a b p q (scaled-same a b p q same)

-- ---- The order of values, counted in units of any exponent.

-- ---- a positive factor does not change the order

times-below : (x y : ℤ) (p : ℕ) → 0 < p → x <ℤ y → (x *ℤ pos p) <ℤ (y *ℤ pos p)
times-below = grind (arith, ints, signed_times)

pub int_cmp-times : (x y : ℤ) (p : ℕ) → 0 < p → int_cmp (x *ℤ pos p) (y *ℤ pos p) ≡ int_cmp x y
int_cmp-times = grind (arith, times-below, int_ranked)

pub reverse-int_cmp : (x y : ℤ) → ordering_reverse (int_cmp x y) ≡ int_cmp y x
reverse-int_cmp = grind arith

-- ---- the order of decimals

-- different decimals have different values, so their parts need not be compared
pub order-decimal : (a b : Number) → IsDecimal a → IsDecimal b → order_of a b ≡ decimal_cmp a b
order-decimal a b p q = by _ refl
  where
    ties : a ≡ b → then_cmp (on (λ d. d.mantissa) int_cmp) (on (λ d. d.exponent) int_cmp) a b ≡ Equal
    ties = grind arith

    by : (r : Ordering) → int_cmp (scaled a) (scaled b) ≡ r → order_of a b ≡ int_cmp (scaled a) (scaled b)
    by Equal e =
        let same = one_form a b p q (int_ranked _ _ Equal (sym e)) in
        rw (e, ties same) refl
    by _ e = rw e refl

pub surplus-up : (e f : ℤ) → f ≤ℤ e → surplus e f ≡ unsigned_abs (e -ℤ f)
surplus-up = grind arith

pub surplus-down : (e f : ℤ) → f ≤ℤ e → surplus f e ≡ 0
surplus-down = grind arith

-- at the smaller exponent, that of the second
pub compare-beside : (a b : Number) → IsDecimal a → IsDecimal b → b.exponent ≤ℤ a.exponent
    → int_cmp (a.mantissa *ℤ pos (10 ^ unsigned_abs (a.exponent -ℤ b.exponent))) b.mantissa ≡ decimal_cmp a b
compare-beside a b p q h =
    let up = surplus-up _ _ h in
    let down = surplus-down _ _ h in
    let over : surplus a.exponent b.exponent ≡ height a.exponent - height b.exponent =
    surplus-heights _ _ (least-exponent a p) (least-exponent b q) in
    let under : surplus b.exponent a.exponent ≡ height b.exponent - height a.exponent =
    surplus-heights _ _ (least-exponent b q) (least-exponent a p) in
    let left : scaled a ≡ mantissa_beside a b *ℤ pos (10 ^ height b.exponent) =
    scaled-beside a b _ (omega (arith, over, under, down)) in
    let right : scaled b ≡ mantissa_beside b a *ℤ pos (10 ^ height b.exponent) =
    scaled-beside b a (height b.exponent) (omega (arith, down)) in
    let one : mantissa_beside b a ≡ b.mantissa = ap (λ n. b.mantissa *ℤ pos (10 ^ n)) down ∙ omega (arith, ints) in
    (λ i. int_cmp (a.mantissa *ℤ pos (10 ^ sym up i)) (sym one i))
    ∙ sym (int_cmp-times (mantissa_beside a b) (mantissa_beside b a) (10 ^ height b.exponent) (pow_positive (height b.exponent)))
    ∙ (λ i. int_cmp (sym left i) (sym right i))

pub compare-left : (a b : Number) (r : Ordering) (places : ℕ) → IsDecimal a → IsDecimal b → b.exponent ≤ℤ a.exponent
    → places ≡ unsigned_abs (a.exponent -ℤ b.exponent) → r ≡ int_cmp (a.mantissa *ℤ pos (10 ^ places)) b.mantissa →
    r ≡ order_of a b
compare-left = grind (arith, compare-beside, order-decimal)

-- with equal exponents
pub compare-level : (a b : Number) (r : Ordering) → IsDecimal a → IsDecimal b → a.exponent ≡ b.exponent
    → r ≡ int_cmp a.mantissa b.mantissa → r ≡ order_of a b
compare-level a b r p q e h = compare-left a b r 0 p q (grind arith) (grind (arith, ints))
    (h ∙ ap (λ m. int_cmp m b.mantissa) (omega (arith, ints)))

size-back : (e f : ℤ) → unsigned_abs (e -ℤ f) ≡ unsigned_abs (f -ℤ e)
size-back = grind arith

pub compare-right : (a b : Number) (r s : Ordering) (places : ℕ) → IsDecimal a → IsDecimal b → a.exponent ≤ℤ b.exponent
    → places ≡ unsigned_abs (a.exponent -ℤ b.exponent)
    → s ≡ int_cmp (b.mantissa *ℤ pos (10 ^ places)) a.mantissa → r ≡ ordering_reverse s → r ≡ order_of a b
compare-right = grind (arith, size-back, compare-beside, reverse-int_cmp, order-decimal)

-- ---- a mantissa that the other one never reaches

far-times : (n places : ℕ) → 36 < places → 10 ^ 37 ≤ suc n * 10 ^ places
far-times n places h =
    let p = pow-le-pow_right ten_positive h in
    let b : 10 ^ places ≤ suc n * 10 ^ places = grind arith in
    omega arith

pub far-above : (m : ℤ) (places : ℕ) → (m ≡ pos 0 → ⊥) → 36 < places → 10 ^ 37 ≤ unsigned_abs m * 10 ^ places
far-above (pos zero) places nonzero h = absurd (nonzero refl)
far-above (pos (suc n)) places nonzero h = far-times n places h
far-above (negsuc n) places nonzero h = far-times n places h

pub compare-far : (m other : ℤ) (places : ℕ) → 10 ^ 37 ≤ unsigned_abs m * 10 ^ places → unsigned_abs other < 10 ^ 36
    → int_cmp m (pos 0) ≡ int_cmp (m *ℤ pos (10 ^ places)) other
compare-far = grind arith
