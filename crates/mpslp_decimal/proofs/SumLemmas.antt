-- Sums at one exponent, and their normal form.
use Rattle.std.proofs.Common.{Bool, Option, ap, arith, false, pow-suc, refl, subst, suc, sym, true, zero, ℕ, ◌%◌, ◌*◌, ◌+◌, ◌-◌}
use Rattle.std.proofs.{Common.{◌<◌, ◌^◌, ◌∙◌, ◌≡◌, ◌≤◌}, Math.Nat.pow-le-pow_right, lemmas.Bool.{le-ltb, lt-ltb}}
use Rattle.std.{proofs.lemmas.{Bool.Decides.nat_tests, Int.{ints, unsigned_abs-mul}, Nat.pow-add}, specs.{Option.SomeIff, Prelude.Err}}
use Rattle.std.specs.Prelude.{FitsSigned, MatchOption, None, Ok, Some, if◌then◌else◌, int_le, int_lt, nat_le, negsuc, not, pos}
use Rattle.std.specs.{Prelude.{unsigned_abs, ℤ, ◌&&◌, ◌*ℤ◌, ◌+ℤ◌, ◌-ℤ◌, ◌<ℤ◌, ◌==◌, ◌≤ℤ◌}, Result.result_ok}
use mir.Syntax.{w128}
use Rattle.mpslp_decimal.proofs.{NormalLemmas.{decimal_at, normal-tens, pow_positive, size-signed}, NumberTextLemmas.nonzero-ends}
use Rattle.mpslp_decimal.proofs.{NumberTextLemmas.signed-size, OrderOfValues.{least-exponent, scaled-beside, surplus-down, surplus-heights}}
use Rattle.mpslp_decimal.proofs.{OrderOfValues.{surplus-up, times_twice}, ScaleLemmas.{exponents-of, height_back, normal-scaled}}
use Rattle.mpslp_decimal.{proofs.{ScaleLemmas.signed_times, SpellsLemmas.{ends-well, strip, stripped-normal}}, specs.Decimal.IsDecimal}
use Rattle.mpslp_decimal.proofs.StripLemmas.{ten_positive, zeros-below}
use Rattle.mpslp_decimal.specs.Decimal.{Number, at_scale, decimal_of, has_small_exponent, height, is_decimal, is_zero, normal, scaled}
use Rattle.mpslp_decimal.specs.{Decimal.{sum_of, zero_number}, Literal.to_signed, Scan.{IsStripped, in_range}, Values.mantissa_beside}
use Rattle.mpslp_decimal.specs.{Values.surplus, declared.literal.NumberFault.TheVariants.ExponentRange}

-- ---- sums in units of a power of ten

times-suc : (x : ℤ) (p : ℕ) → x *ℤ pos (suc p) ≡ x *ℤ pos p +ℤ x
times-suc = grind arith

pub sum-times : (x y : ℤ) (p : ℕ) → (x +ℤ y) *ℤ pos p ≡ x *ℤ pos p +ℤ y *ℤ pos p
sum-times x y zero = grind arith
sum-times x y (suc p) =
    times-suc (x +ℤ y) p ∙ ap (λ z. z +ℤ (x +ℤ y)) (sum-times x y p)
    ∙ omega (arith, ints)
    ∙ (λ i. sym (times-suc x p) i +ℤ sym (times-suc y p) i)

-- the normal form is the same, counted in units of the least exponent
shift-exponent : (e : ℤ) (h z : ℕ) → e -ℤ pos h ≡ negsuc 499 → negsuc 499 ≡ (e +ℤ pos z) -ℤ pos (z + h)
shift-exponent e h z g = omega (arith, ints)

normal-shift : (minus : Bool) (n m z : ℕ) (e : ℤ) → IsStripped n m z → 0 < n → z < 99 → int_le (negsuc 499) e ≡ true
    → int_le e (pos 500) ≡ true → normal (at_scale (to_signed minus n *ℤ pos (10 ^ height e))) ≡ normal (decimal_at minus n e)
normal-shift minus n m z e s some few low high = let total =
    signed_times minus n _ ∙ ap (λ k. to_signed minus (k * 10 ^ height e)) (sym s.value) ∙ ap (to_signed minus) (powers m z _) in
    let height_few : z + height e < 1100 = (let b = height-most e high in omega arith) in
    (λ i. normal (record { mantissa = total i; exponent = shift-exponent e _ z (height_back e low) i }))
    ∙ normal-tens minus m _ _ (s.ends some) height_few
    ∙ sym (stripped-normal minus n m z e s some (omega arith))
  where
    powers : (m z h : ℕ) → (m * 10 ^ z) * 10 ^ h ≡ m * 10 ^ (z + h)
    powers m z h = (grind arith) ∙ ap (λ p. m * p) (sym (pow-add 10 z h))

    height-most : (e : ℤ) → int_le e (pos 500) ≡ true → height e ≤ 1000
    height-most = grind arith

-- the sum of two decimals, at the smaller exponent

sum-scaled : (a b : Number) → IsDecimal a → IsDecimal b → b.exponent ≤ℤ a.exponent
    → scaled a +ℤ scaled b ≡ (mantissa_beside a b +ℤ b.mantissa) *ℤ pos (10 ^ height b.exponent)
sum-scaled a b p q h =
    let down = surplus-down _ _ h in
    let over : surplus a.exponent b.exponent ≡ height a.exponent - height b.exponent =
    surplus-heights _ b.exponent (least-exponent a p) (least-exponent b q) in
    let under : surplus b.exponent a.exponent ≡ height b.exponent - height a.exponent =
    surplus-heights _ _ (least-exponent b q) (least-exponent a p) in
    let left : scaled a ≡ mantissa_beside a b *ℤ pos (10 ^ height b.exponent) =
    scaled-beside a b (height b.exponent) (omega (arith, over, under, down)) in
    ap (λ z. z +ℤ scaled b) left ∙ sym (sum-times (mantissa_beside a b) _ (10 ^ height b.exponent))

-- adding 0 to a decimal gives the decimal
lone-sum : (a b : Number) → IsDecimal a → IsDecimal b → scaled a ≡ pos 0 → sum_of a b ≡ Some b
lone-sum a b p q none =
    ap (λ z. decimal_of (at_scale (z +ℤ scaled b))) none ∙ ap (λ z. decimal_of (at_scale z)) (zero_plus (scaled b))
    ∙ ap (λ d. if is_decimal d then Some d else None) (normal-scaled b q) ∙ ap (λ t. if t then Some b else None) q
  where
    zero_plus : (z : ℤ) → pos 0 +ℤ z ≡ z
    zero_plus z = omega (arith, ints)

sum-turn : (a b : Number) → sum_of a b ≡ sum_of b a
sum-turn a b = ap (λ z. decimal_of (at_scale z)) (turn _ (scaled b))
  where
    turn : (x y : ℤ) → x +ℤ y ≡ y +ℤ x
    turn x y = omega (arith, ints)

pub sum-zero_first : (a b : Number) → IsDecimal a → IsDecimal b → is_zero a ≡ true → Some b ≡ sum_of a b
sum-zero_first a b p q z = sym (lone-sum a b p q (grind (arith, p, z)))

pub sum-zero_second : (a b : Number) → IsDecimal a → IsDecimal b → is_zero b ≡ true → Some a ≡ sum_of a b
sum-zero_second a b p q z = sym (sum-turn a b ∙ lone-sum b a q p (grind (arith, q, z)))

pub sum-other : (a b : Number) → sum_of b a ≡ sum_of a b
sum-other a b = sum-turn b a

-- the sum at the smaller exponent is not a decimal
pub sum-none : (a b : Number) → IsDecimal a → IsDecimal b → b.exponent ≤ℤ a.exponent → mantissa_beside a b +ℤ b.mantissa ≡ pos 0
    → Some zero_number ≡ sum_of a b
sum-none a b p q h none = sym (ap (λ z. decimal_of (at_scale z))
    (sum-scaled a b p q h ∙ ap (λ z. z *ℤ pos (10 ^ height b.exponent)) none ∙ gone _) ∙ refl)
  where
    gone : (p : ℕ) → pos 0 *ℤ pos p ≡ pos 0
    gone p = omega (arith, ints)

-- the sum at the smaller exponent, and its decimal
pub sum-stripped : (a b : Number) (minus : Bool) (n m z : ℕ) → IsDecimal a → IsDecimal b → b.exponent ≤ℤ a.exponent
    → mantissa_beside a b +ℤ b.mantissa ≡ to_signed minus n
    → IsStripped n m z → 0 < n → z < 99 → decimal_of (decimal_at minus n b.exponent) ≡ sum_of a b
sum-stripped = grind (arith, exponents-of, normal-shift, sum-scaled)

pub sum-some : (a b : Number) (minus : Bool) (n : ℕ) → IsDecimal a → IsDecimal b → b.exponent ≤ℤ a.exponent
    → mantissa_beside a b +ℤ b.mantissa ≡ to_signed minus n → 0 < n → n < 10 ^ 39 →
    decimal_of (decimal_at minus n b.exponent) ≡ sum_of a b
sum-some a b minus n p q h is some small = by (strip 39 n small some)
  where
    by : (m : ℕ) × (z : ℕ) × IsStripped n m z → decimal_of (decimal_at minus n b.exponent) ≡ sum_of a b
    by (m, z, s) =
        let few = zeros-below n m z 39 s.value (omega (arith, s.ends some)) small in
        sum-stripped a b minus n m z p q h is s some (omega arith)

-- ---- exponents too far apart

-- the last digit of the smaller one stays
last-digit : (x y : ℤ) → 0 < unsigned_abs y % 10 → 0 < unsigned_abs (x *ℤ pos 10 +ℤ y) % 10
last-digit = grind arith

-- ---- the results of `decimal_of`

pub decimal-many : (minus : Bool) (n m z : ℕ) (e : ℤ) → IsStripped n m z → 0 < n → z < 1100 → 10 ^ 36 ≤ m
    → None ≡ decimal_of (decimal_at minus n e)
decimal-many minus n m z e s some few long =
    sym ((grind (arith, stripped-normal, ends-well, size-signed, s, some, few))
    ∙ ap (λ b. if b && has_small_exponent (decimal_at minus m (e +ℤ pos z)) then Some (decimal_at minus m (e +ℤ pos z)) else None)
    (le-ltb m _ long))

pub decimal-few : (minus : Bool) (n m z : ℕ) (e : ℤ) → IsStripped n m z → 0 < n → z < 1100 → m < 10 ^ 36
    → result_ok (in_range (decimal_at minus m (e +ℤ pos z))) ≡ decimal_of (decimal_at minus n e)
decimal-few minus n m z e s some few short =
    sym ((grind (arith, stripped-normal, ends-well, size-signed, s, some, few))
    ∙ ap (λ b. if b && has_small_exponent (decimal_at minus m (e +ℤ pos z)) then Some (decimal_at minus m (e +ℤ pos z)) else None)
    (lt-ltb m _ short) ∙ by _ _)
  where
    by : (b : Bool) (d : Number) → (if b then Some d else None) ≡ result_ok (if b then Ok d else Err ExponentRange)
    by = grind arith

-- ---- the results of `sum_at`

few-digits : (d : Number) → IsDecimal d → unsigned_abs d.mantissa < 10 ^ 36
few-digits = grind arith

sum-bound : (x y : ℤ) → unsigned_abs (x +ℤ y) ≤ unsigned_abs x + unsigned_abs y
sum-bound = grind arith

-- a sum that is too large in magnitude: zeros are appended to one of both, because two mantissas together do not reach it
pub sum-far : (a b : Number) (places : ℕ) → IsDecimal a → IsDecimal b → b.exponent ≤ℤ a.exponent → is_zero b ≡ false
    → places ≡ unsigned_abs (a.exponent -ℤ b.exponent) →
    2 * 10 ^ 36 ≤ unsigned_abs (a.mantissa *ℤ pos (10 ^ places) +ℤ b.mantissa) → None ≡ sum_of a b
sum-far a b zero p q h y e far = grind (arith, sum-bound, unsigned_abs-mul, few-digits)
sum-far a b (suc j) p q h y e far =
    let up = surplus-up _ _ h ∙ sym e in
    let s = a.mantissa *ℤ pos (10 ^ suc j) +ℤ b.mantissa in
    let minus = int_le s (negsuc 0) in
    let n = unsigned_abs s in
    let total = ap (λ k. a.mantissa *ℤ pos (10 ^ k) +ℤ b.mantissa) up ∙ sym (signed-size s) in
    let tens = ap (λ z. z +ℤ b.mantissa) (times_twice _ (10 ^ j) 10 ∙ ap (λ k. a.mantissa *ℤ pos k) (sym (pow-suc 10 j))) in
    let ends = subst (λ z. 0 < unsigned_abs z % 10) tens (last-digit (a.mantissa *ℤ pos (10 ^ j)) _ (nonzero-ends b q y)) in
    let stripped : IsStripped n n 0 = grind (arith, ends) in
    decimal-many minus n n 0 _ stripped (omega (arith, ends)) (omega arith) (omega (arith, far))
    ∙ sum-stripped a b minus n n 0 p q h total stripped (omega (arith, ends)) (omega arith)

-- the sum at the smaller exponent, as it is computed
pub beside-sum : (a b : Number) (places : ℕ) (s x y : ℤ) → b.exponent ≤ℤ a.exponent →
    places ≡ unsigned_abs (a.exponent -ℤ b.exponent) → x ≡ a.mantissa → y ≡ b.mantissa →
    s ≡ (x *ℤ pos (10 ^ places)) +ℤ y → mantissa_beside a b +ℤ b.mantissa ≡ s
beside-sum = grind arith

pub exponent-small : (d : Number) → IsDecimal d → unsigned_abs d.exponent ≤ 500
exponent-small = grind arith

pub size-positive : (s : ℤ) → (s ≡ pos 0 → ⊥) → 0 < unsigned_abs s
size-positive = grind arith

-- a number from its sign and its absolute value
pub signed-below : (s : ℤ) → s ≡ to_signed (int_lt s (pos 0)) (unsigned_abs s)
signed-below = grind arith

-- ---- The magnitude of a result that does not fit in 128 bits.

-- a product that is checked
pub product-held : (answer : Option ℤ) (product m : ℤ) (p : ℕ) → SomeIff answer (FitsSigned w128 product) product →
    product ≡ m *ℤ pos p → MatchOption answer (10 ^ 37 ≤ unsigned_abs m * p) (λ shifted. shifted ≡ m *ℤ pos p)
product-held = grind arith

-- the sum with a product that is too large does not fit
pub far-sum : (m other : ℤ) (p : ℕ) → 10 ^ 37 ≤ unsigned_abs m * p → unsigned_abs other < 10 ^ 36
    → 2 * 10 ^ 36 ≤ unsigned_abs (m *ℤ pos p +ℤ other)
far-sum = grind arith

-- a sum that is checked
pub sum-held : (answer : Option ℤ) (sum whole : ℤ) → SomeIff answer (FitsSigned w128 sum) sum → sum ≡ whole
    → MatchOption answer (2 * 10 ^ 36 ≤ unsigned_abs whole) (λ s. s ≡ whole)
sum-held = grind arith

-- ---- When a number of units of a power of ten is at least 1e20, counted in units of the least exponent.

no : (a b : ℕ) → b < a → false ≡ nat_le a b
no = grind (arith, nat_tests)

at_least : (s p : ℕ) → 0 < s → p ≤ s * p
at_least = grind arith

-- the power is infinite itself
large : (s h t : ℕ) → t ≤ 10 ^ h → 0 < t → not (s == 0) ≡ nat_le t (s * 10 ^ h)
large = grind (arith, no, at_least, nat_tests)

-- the power is too small for any mantissa
small : (s p q t : ℕ) → s < q → 0 < p → q * p ≤ t → false ≡ nat_le t (s * p)
small = grind arith

-- between the two
between : (s p q : ℕ) → 0 < p → nat_le q s ≡ nat_le (q * p) (s * p)
between s p q some = by _ refl
  where
    more : (s p q : ℕ) → q ≤ s → q * p ≤ s * p
    more s p q h = grind arith

    less : (s p q : ℕ) → s < q → 0 < p → s * p < q * p
    less s p q h some = grind arith

    by : (b : Bool) → nat_le q s ≡ b → b ≡ nat_le (q * p) (s * p)
    by = grind (arith, nat_tests, more, no, less)

powers : (k h n : ℕ) → k + h ≡ n → 10 ^ k * 10 ^ h ≡ 10 ^ n
powers k h n e = sym (pow-add 10 k h) ∙ ap (λ m. 10 ^ m) e

pub infinite-large : (s : ℕ) (e : ℤ) → pos 20 ≤ℤ e → not (s == 0) ≡ nat_le (10 ^ 520) (s * 10 ^ height e)
infinite-large s (pos n) h = let l : 520 ≤ n + 500 =
    omega (arith, ints, h) in large s _ _ (pow-le-pow_right ten_positive l) (pow_positive 520)
infinite-large s _ h = absurd (omega (arith, ints))

height-small : (e : ℤ) → e ≤ℤ negsuc 15 → height e ≤ 484
height-small = grind arith

pub infinite-small : (s : ℕ) (e : ℤ) → s < 10 ^ 36 → e ≤ℤ negsuc 15 → false ≡ nat_le (10 ^ 520) (s * 10 ^ height e)
infinite-small = grind (arith, height-small, pow-le-pow_right, ten_positive, powers, small, pow_positive)

pub infinite-between : (s : ℕ) (e z : ℤ) (p : ℕ) → p ≡ 10 ^ unsigned_abs z → z ≡ pos 20 -ℤ e → e <ℤ pos 20 → negsuc 15 <ℤ e
    → nat_le p s ≡ nat_le (10 ^ 520) (s * 10 ^ height e)
infinite-between s (pos n) z p power is below above =
    let places : pos (unsigned_abs z) ≡ pos 20 -ℤ pos n = grind (arith, is, below) in
    let sum = total _ n places in
    ap (λ q. nat_le q s) power
    ∙ between s _ _ (pow_positive _)
    ∙ ap (λ t. nat_le t (s * 10 ^ (n + 500))) (powers _ _ 520 sum)
  where
    total : (k n : ℕ) → pos k ≡ pos 20 -ℤ pos n → k + (n + 500) ≡ 520
    total k n h = omega (arith, ints)
infinite-between s (negsuc n) z p power is below above =
    let places : pos (unsigned_abs z) ≡ pos 20 -ℤ negsuc n = grind (arith, is, below) in
    let few : n < 15 = omega (arith, ints, above) in
    let sum = total _ n places few in
    ap (λ q. nat_le q s) power
    ∙ between s _ _ (pow_positive _)
    ∙ ap (λ t. nat_le t (s * 10 ^ (499 - n))) (powers _ _ 520 sum)
  where
    total : (k n : ℕ) → pos k ≡ pos 20 -ℤ negsuc n → n < 15 → k + (499 - n) ≡ 520
    total k n h few = omega (arith, ints)

-- the exponent of the power between the two is that of a mantissa
pub power-small : (z e : ℤ) → z ≡ pos 20 -ℤ e → e <ℤ pos 20 → negsuc 15 <ℤ e → unsigned_abs z < 36
power-small = grind arith
