-- A text is read as a decimal if and only if it is a literal within the limit that has the value of the decimal.
use Rattle.std.proofs.Common.{Bool, List, None, [], add-one, ap, arith, drop, false, length, length-append, length-drop, lit<, pow-suc}
use Rattle.std.proofs.Common.{refl, rules, subst, suc, sym, take, true, zero, ℕ, ◌%◌, ◌*◌, ◌++◌, ◌+◌, ◌-◌, ◌/◌, ◌<◌, ◌^◌, ◌∙◌, ◌∷◌, ◌≡◌}
use Rattle.std.proofs.{Common.◌≤◌, Math.Nat.{mul-le-mul_left, pow-le-pow_right}, lemmas.Bool.{le-ltb, lt-ltb, ltb-false}}
use Rattle.std.{proofs.lemmas.{Bool.Decides.nat_tests, Int.{ints, unsigned_abs-mul}, List.length-take, Nat.pow-add}, specs.Cmp.first_so}
use Rattle.std.specs.{Cmp.second_so, List.list_all, Prelude.{Err, Ok, Result, Some, int_le, min, nat_lt, negsuc, pos, unsigned_abs, ℤ}}
use Rattle.std.specs.Prelude.{◌&&◌, ◌+ℤ◌, ◌-ℤ◌, ◌==◌, ◌↔◌}
use Rattle.mpslp_decimal.proofs.{CutLemmas.AreDigits, NormalLemmas.{decimal_at, normal-tens, pow_positive, size-signed}}
use Rattle.mpslp_decimal.proofs.{NumberTextLemmas.{answer_of, nonzero-ends, signed-size, tests_pass, zero-is}, ScaleLemmas.signed_times}
use Rattle.mpslp_decimal.proofs.StripLemmas.{ten_positive, zeros-below}
use Rattle.mpslp_decimal.specs.Decimal.{IsDecimal, Number, has_few_digits, has_small_exponent, is_normal, is_zero, normal, zero_number}
use Rattle.mpslp_decimal.specs.Literal.{digits_sum, exponent_part, fraction_digits, is_digit, is_literal, is_minus, literal_value}
use Rattle.mpslp_decimal.specs.{Literal.{mantissa_digits, number_of, signed_value, to_signed, without_sign}, Scan.IsScanOf}
use Rattle.mpslp_decimal.specs.{Scan.{IsSignificandOf, IsStripped, in_range, parts_of}, Values.{HasExponentOutOfRange, HasSameValue}}
use Rattle.mpslp_decimal.specs.{Values.{HasTooManyDigits, Spells, surplus}, declared.literal.NumberFault.NumberFault}
use Rattle.mpslp_decimal.specs.declared.literal.{NumberFault.TheVariants.{ExponentRange, TooManyDigits}, Scan.Scan, Significand.Significand}
use Rattle.mpslp_decimal.specs.declared.literal.Significand.TheVariants.{Many}

pub pow-next : (k : ℕ) → 10 ^ (k + 1) ≡ 10 ^ k * 10
pow-next k = rw (add-one, pow-suc) refl

regroup : (m p : ℕ) → m * (p * 10) ≡ (m * p) * 10
regroup = grind arith

tens : (m z n : ℕ) → m * 10 ^ z ≡ n → m * 10 ^ (z + 1) ≡ n * 10
tens m z n h = rw pow-next (regroup m (10 ^ z) ∙ ap (λ x. x * 10) h)

times_one : (n : ℕ) → n * 10 ^ 0 ≡ n
times_one n = omega arith

-- any other digit ends the number
pub stripped-digit : (n d : ℕ) → 0 < d → d < 10 → IsStripped (n * 10 + d) (n * 10 + d) 0
stripped-digit = grind arith

below_product : (m p : ℕ) → 0 < p → m ≤ m * p
below_product = grind arith

at_least : (n m z : ℕ) → IsStripped n m z → m ≤ n
at_least = grind (arith, below_product, pow_positive)

plus_none : (n : ℕ) → n * 10 ≡ n * 10 + 0
plus_none n = omega arith

-- too many digits stay too many
pub many-more : (n d : ℕ) → d < 10 → IsSignificandOf Many n → IsSignificandOf Many (n * 10 + d)
many-more n zero small (m, z, (s, long)) = (m, z + 1, ((grind (arith, tens, plus_none, s)), long))
many-more n (suc d) small (m, z, (s, long)) =
    let b = at_least n m z s in (n * 10 + suc d, 0, (stripped-digit n (suc d) (omega arith) small, omega arith))

further : (m i j : ℕ) → i ≤ j → m * 10 ^ i ≤ m * 10 ^ j
further m i j h = mul-le-mul_left m (pow-le-pow_right ten_positive h)

-- digits that reach the limit before the last of the zeros is appended
pub many-digit : (n m z i v d : ℕ) → IsStripped n m z → v ≡ m * 10 ^ i → i ≤ z → 10 ^ 35 ≤ v → 0 < d → d < 10
    → IsSignificandOf Many (n * 10 + d)
many-digit n m z i v d s value within long some small =
    let b = further m i z within in
    (n * 10 + d, 0, (stripped-digit n d some small, omega (arith, s.value, value)))

-- the mantissa after one more zero is appended
pub one-more-zero : (v m i : ℕ) → v ≡ m * 10 ^ i → v * 10 ≡ m * 10 ^ (i + 1)
one-more-zero v m i h = sym (tens m i v (sym h))

-- the digits with the zeros appended, and the digit after them
pub digit-after : (n m z i v d e : ℕ) → IsStripped n m z → v ≡ m * 10 ^ i → i ≡ z + 1 → v < 10 ^ 36 → e ≡ d → 0 < d → d < 10
    → IsStripped (n * 10 + d) (v + e) 0 × (v + e < 10 ^ 36)
digit-after = grind (arith, tens, stripped-digit)

pub zero-after : (n m z d : ℕ) → IsStripped n m z → d ≡ 0 → IsStripped (n * 10 + d) m (z + 1)
zero-after n m z d s none = rw none (grind (arith, tens, plus_none, s))

-- the parts of a significand
pub parts-are : (s : Significand) (n m z : ℕ) → parts_of s ≡ Some (m, z) → IsSignificandOf s n → IsStripped n m z × (m < 10 ^ 36)
parts-are = grind arith

pub parts-none : (s : Significand) → parts_of s ≡ None → s ≡ Many
parts-none = grind arith

-- ---- The decimal that the parts of a literal give.

-- ---- the tests in turn

abbrev answer_for : Bool → Bool → Number → Result Number NumberFault
answer_for literal long value = answer_of literal long (has_few_digits value) (has_small_exponent value) value

abbrev read_value : List ℕ → Number
read_value text = normal (literal_value text)

number-value : (text : List ℕ) (value : Number) → is_literal text ≡ true → length text ≤ 255 → read_value text ≡ value
    → number_of text ≡ answer_for true false value
number-value = grind arith

many-answer : (value : Number) → has_few_digits value ≡ false → answer_for true false value ≡ Err TooManyDigits
many-answer value h = rw h refl

-- ---- the value

back : (e : ℤ) (z : ℕ) → e ≡ (e +ℤ pos z) -ℤ pos z
back e z = omega (arith, ints)

pub stripped-normal : (minus : Bool) (n m z : ℕ) (e : ℤ) → IsStripped n m z → 0 < n → z < 1100
    → normal (decimal_at minus n e) ≡ decimal_at minus m (e +ℤ pos z)
stripped-normal minus n m z e s some few =
    (λ i. normal (decimal_at minus (sym s.value i) (back e z i))) ∙ normal-tens minus m z _ (s.ends some) few

few_digits-signed : (minus : Bool) (m : ℕ) (e : ℤ) (b : Bool) → nat_lt m (10 ^ 36) ≡ b → has_few_digits (decimal_at minus m e) ≡ b
few_digits-signed = grind arith

-- ---- the number of zeros

digit-small : (b : ℕ) → is_digit b ≡ true → b - 48 < 10
digit-small = grind (arith, nat_tests)

pub digits_sum-small : (ds : List ℕ) → AreDigits ds → digits_sum ds < 10 ^ length ds
digits_sum-small [] h = lit< tt
digits_sum-small (d ∷ ds) h =
    let more = digits_sum-small ds h.1 in
    let small = digit-small d h.0 in
    let p : 10 ^ suc (length ds) ≡ 10 ^ length ds * 10 = rw pow-suc refl in
    step (d - 48) _ _ _ small more p
  where
    step : (x p s t : ℕ) → x < 10 → s < p → t ≡ p * 10 → x * p + s < t
    step = grind arith

pub digits-each : (ds : List ℕ) → list_all is_digit ds ≡ true → AreDigits ds
digits-each [] h = tt
digits-each (d ∷ ds) h = grind (arith, digits-each ds (second_so (is_digit d) (list_all is_digit ds) h))

-- ---- the exponent

regroup_number : (x : ℤ) (f z : ℕ) → (x +ℤ pos z) -ℤ pos f ≡ (x -ℤ pos f) +ℤ pos z
regroup_number x f z = omega (arith, ints)

-- the cap does not change the result
capped-range : (minus : Bool) (n f z : ℕ) (m : ℤ) → f ≤ 255 → z ≤ 255
    → in_range (record { mantissa = m; exponent = (to_signed minus (min n 100000) -ℤ pos f) +ℤ pos z })
    ≡ in_range (record { mantissa = m; exponent = (to_signed minus n -ℤ pos f) +ℤ pos z })
capped-range minus n f z m short few = grind arith

-- ---- the results of `parse`

positive-product : (m p n : ℕ) → 0 < m → 0 < p → m * p ≡ n → 0 < n
positive-product = grind arith

not-zero : (m : ℕ) → (m ≡ 0 → ⊥) → 0 < m
not-zero = grind arith

pub number-zero : (scan : Scan) (text : List ℕ) (m z : ℕ) → IsScanOf scan text → parts_of scan.significand ≡ Some (m, z) → m ≡ 0
    → length text ≤ 255 → Ok zero_number ≡ number_of text
number-zero scan text m z s e none short =
    let stripped = (parts-are _ _ m z e s.significand).0 in
    let nothing : digits_sum (mantissa_digits text) ≡ 0 = sym stripped.value ∙ ap (λ k. k * 10 ^ z) none ∙ omega arith in
    sym (number-value text zero_number s.literal short (grind (arith, nothing)))

pub scan-ends : (scan : Scan) (text : List ℕ) (m z : ℕ) → IsScanOf scan text → parts_of scan.significand ≡ Some (m, z) →
    (m ≡ 0 → ⊥) → 0 < m % 10
scan-ends = grind (arith, parts-are, positive-product, not-zero, pow_positive)

pub scan-few : (scan : Scan) (text : List ℕ) (m z : ℕ) → IsScanOf scan text → parts_of scan.significand ≡ Some (m, z) →
    m < 10 ^ 36
scan-few = grind arith

pub scan-zeros : (scan : Scan) (text : List ℕ) (m z : ℕ) → IsScanOf scan text →
    parts_of scan.significand ≡ Some (m, z) → length text ≤ 255 → z ≤ 255
scan-zeros = grind arith

pub number-many : (scan : Scan) (text : List ℕ) → IsScanOf scan text → scan.significand ≡ Many → length text ≤ 255
    → Err TooManyDigits ≡ number_of text
number-many scan text s e short =
    let parts = subst (λ t. IsSignificandOf t n) e s.significand in
    by parts
  where
    n : ℕ
    n = digits_sum (mantissa_digits text)

    minus : Bool
    minus = is_minus text

    digits : AreDigits (mantissa_digits text)
    digits = grind (arith, digits-each)

    by : (m : ℕ) × (z : ℕ) × (IsStripped n m z × (10 ^ 36 ≤ m)) → Err TooManyDigits ≡ number_of text
    by (m, z, (is, long)) =
        let exponent = (signed_value (exponent_part text) -ℤ pos (length (fraction_digits text))) +ℤ pos z in
        let few = zeros-below n m z _ is.value (omega arith) (digits_sum-small _ digits) in
        let some = positive-product m (10 ^ z) n (omega arith) (pow_positive z) is.value in
        let value =
        stripped-normal minus n m z _ is some (omega (arith, s.digits_within)) in
        let not_few = le-ltb m _ long in
        sym (number-value text _ s.literal short value
        ∙ many-answer (decimal_at minus m exponent) (few_digits-signed minus m exponent false not_few))

pub number-few : (scan : Scan) (text : List ℕ) (m z : ℕ) (exponent : ℤ) → IsScanOf scan text →
    parts_of scan.significand ≡ Some (m, z) → (m ≡ 0 → ⊥) → length text ≤ 255
    → exponent ≡ (scan.exponent +ℤ pos z) -ℤ pos scan.places → in_range (decimal_at scan.is_negative m exponent) ≡ number_of text
number-few scan text m z exponent s e nonzero short is =
    let power = exponent_part text in
    let size = digits_sum (without_sign (exponent_part text)) in
    let places = length (fraction_digits text) in
    let n = digits_sum (mantissa_digits text) in
    let minus = is_minus text in
    let raw_exponent = signed_value (exponent_part text) -ℤ pos (length (fraction_digits text)) in
    let value = decimal_at minus m (raw_exponent +ℤ pos z) in
    let parts = parts-are _ n m z e s.significand in
    let zeros_short = scan-zeros scan text m z s e short in
    let places_short : places ≤ 255 = omega (arith, s.places, s.places_within) in
    let some = positive-product m (10 ^ z) n (not-zero m nonzero) (pow_positive z) parts.0.value in
    let stated = is ∙ (λ i. (s.exponent i +ℤ pos z) -ℤ pos (s.places i)) ∙ regroup_number _ places z in
    (λ i. in_range (decimal_at (s.negative i) m (stated i)))
    ∙ capped-range _ size places z _ places_short zeros_short
    ∙ sym (number-value text value s.literal short (stripped-normal minus n m z _ parts.0 some (omega (arith, zeros_short)))
    ∙ grind (arith, few_digits-signed minus m (raw_exponent +ℤ pos z) true (lt-ltb m _ parts.1)))

-- ---- A text is read as a decimal if and only if it is a literal within the limit that has the value of the decimal.

-- ---- every number is stripped of its zeros in some way

tenth-smaller : (n k : ℕ) → n < 10 ^ suc k → n / 10 < 10 ^ k
tenth-smaller = grind arith

whole-tenth : (n : ℕ) → n % 10 ≡ 0 → (n / 10) * 10 + 0 ≡ n
whole-tenth n h = omega (arith, h)

pub strip : (k n : ℕ) → n < 10 ^ k → 0 < n → (m : ℕ) × (z : ℕ) × IsStripped n m z
strip zero n small some = absurd (omega arith)
strip (suc k) n small some = by (n % 10) refl (λ e. strip k (n / 10) (tenth-smaller n k small) (omega (arith, e)))
  where
    more : n % 10 ≡ 0 → (m : ℕ) × (z : ℕ) × IsStripped (n / 10) m z → (m : ℕ) × (z : ℕ) × IsStripped n m z
    more e (m, z, s) = (m, z + 1, subst (λ x. IsStripped x m (z + 1)) (whole-tenth n e) (grind (arith, tens, plus_none, s)))

    by : (r : ℕ) → n % 10 ≡ r → (n % 10 ≡ 0 → (m : ℕ) × (z : ℕ) × IsStripped (n / 10) m z) → (m : ℕ) × (z : ℕ) × IsStripped n m z
    by zero e tenth = more e (tenth e)
    by (suc r) e tenth = (n, 0, record { value = times_one n; ends = λ _. omega (arith, e) })

-- ---- from the number to its literal

surplus-none : (e : ℤ) (z : ℕ) → surplus e (e +ℤ pos z) ≡ 0
surplus-none = grind arith

surplus-all : (e : ℤ) (z : ℕ) → surplus (e +ℤ pos z) e ≡ z
surplus-all = grind arith

pub both : (a b : Bool) → a ≡ true → b ≡ true → (a && b) ≡ true
both = grind arith

pub ends-well : (m : ℤ) (e : ℤ) → 0 < unsigned_abs m % 10 → is_normal (record { mantissa = m; exponent = e }) ≡ true
ends-well = grind arith

-- what is known of the value of a literal
pub record IsNormalOf (v d : Number) : Type 0 where
  pub normal_form : is_normal d ≡ true
  pub same : HasSameValue v d

-- the normal form of a number is 0, or the number without its zeros
normal-by : (P : Number → Type 0) (minus : Bool) (n : ℕ) (e : ℤ) (len : ℕ) → n < 10 ^ len → len ≤ 255 → (n ≡ 0 → P zero_number)
    → ((m z : ℕ) → IsStripped n m z → 0 < m % 10 → P (decimal_at minus m (e +ℤ pos z))) → P (normal (decimal_at minus n e))
normal-by P minus n e len small short none some = by (n == 0) refl
  where
    by : (b : Bool) → (n == 0) ≡ b → P (normal (decimal_at minus n e))
    by true h = grind arith
    by false h =
        let positive : 0 < n = grind (arith, nat_tests, h) in
        let parts = strip len n small positive in
        let ends = parts.2.ends positive in
        let zeros = zeros-below n parts.0 parts.1 len parts.2.value (omega (arith, ends)) small in
        subst P (sym (stripped-normal minus n parts.0 parts.1 e parts.2 positive (omega (arith, zeros, short))))
        (some parts.0 parts.1 parts.2 ends)

pub normal-same : (minus : Bool) (n : ℕ) (e : ℤ) (len : ℕ) → n < 10 ^ len → len ≤ 255
    → IsNormalOf (decimal_at minus n e) (normal (decimal_at minus n e))
normal-same minus n e len small short =
    normal-by (IsNormalOf (decimal_at minus n e)) minus n e len small short
    (λ is. record { normal_form = refl; same = (grind (arith, is)) })
    (λ m z s ends. record {
      normal_form = ends-well (to_signed minus m) (e +ℤ pos z) (rw size-signed ends);
      same = (search (rules, surplus-none, signed_times, times_one, surplus-all, s));
    })

-- a result that is a decimal passed each test
record Passed (literal long few small : Bool) (v d : Number) : Type 0 where
  is_literal : literal ≡ true
  is_short : long ≡ false
  is_few : few ≡ true
  is_small : small ≡ true
  is_value : v ≡ d

passed : (literal long few small : Bool) (v d : Number)
    → answer_of literal long few small v ≡ Ok d
    → Passed literal long few small v d
passed = grind arith

pub mantissa-small : (text : List ℕ) → is_literal text ≡ true →
    digits_sum (mantissa_digits text) < 10 ^ length (mantissa_digits text)
mantissa-small = grind (arith, digits_sum-small, digits-each)

around : (text : List ℕ) (i : ℕ) → length (take i text ++ drop (i + 1) text) ≤ length text
around text i = omega (arith, length-append (take i text) (drop (i + 1) text), length-take i text, length-drop (i + 1) text)

pub mantissa-short : (text : List ℕ) → length (mantissa_digits text) ≤ length text
mantissa-short = grind (arith, length-take, around)

pub spells-from_number : (text : List ℕ) (d : Number) → number_of text ≡ Ok d → Spells text d
spells-from_number text d e =
    let p = passed _ _ _ _ _ d e in
    let short = ltb-false 255 _ p.is_short in
    let n = normal-same _ _ _ _
    (mantissa-small text p.is_literal) (omega (arith, mantissa-short text)) in
    let decimal = both _ _ p.is_few (both _ _ p.is_small n.normal_form) in
    record {
      literal = p.is_literal;
      short = short;
      decimal = subst IsDecimal p.is_value decimal;
      value = subst (HasSameValue (literal_value text)) p.is_value n.same;
    }

-- ---- from the literal to its number

-- a value equal to 0 is 0
zero-from_same : (v : Number) → HasSameValue v zero_number → unsigned_abs v.mantissa ≡ 0
zero-from_same = grind (arith, unsigned_abs-mul, pow_positive)

-- the exponents of a value and of its normal form
apart : (e f : ℤ) (k : ℕ) → surplus f e ≡ k → surplus e f ≡ 0 → e ≡ f -ℤ pos k
apart = grind arith

above-both : (e f : ℤ) (k : ℕ) → surplus e f ≡ suc k → surplus f e ≡ 0
above-both = grind arith

-- a normal mantissa absorbs no zeros of the other one
no-zeros-after : (v d : Number) (k : ℕ) → HasSameValue v d → 0 < unsigned_abs d.mantissa % 10 →
    surplus v.exponent d.exponent ≡ suc k → ⊥
no-zeros-after v d k same ends up =
    let down = above-both v.exponent d.exponent k up in
    let sizes =
    sym (unsigned_abs-mul v.mantissa _) ∙ ap unsigned_abs same ∙ unsigned_abs-mul d.mantissa _ in
    let whole = ap (λ (n : ℕ). unsigned_abs v.mantissa * 10 ^ n) (sym up) ∙ sizes
    ∙ ap (λ (n : ℕ). unsigned_abs d.mantissa * 10 ^ n) down ∙ times_one _ in
    tenfold _ k _ whole ends
  where
    shift : (n k : ℕ) → n * 10 ^ suc k ≡ (n * 10 ^ k) * 10
    shift n k = rw pow-suc (grind arith)

    tenfold : (n k m : ℕ) → n * 10 ^ suc k ≡ m → 0 < m % 10 → ⊥
    tenfold n k m e h = omega (arith, e, h, (sym (shift n k) ∙ e))

-- the value of the literal is that of the decimal with zeros appended to the mantissa
value-apart : (v d : Number) → HasSameValue v d → 0 < unsigned_abs d.mantissa % 10
    → v ≡ decimal_at (int_le d.mantissa (negsuc 0)) (unsigned_abs d.mantissa * 10 ^ surplus d.exponent v.exponent)
    (d.exponent -ℤ pos (surplus d.exponent v.exponent))
value-apart v d same ends = by _ refl
  where
    minus : Bool
    minus = int_le d.mantissa (negsuc 0)

    k : ℕ
    k = surplus d.exponent v.exponent

    by : (n : ℕ) → surplus v.exponent d.exponent ≡ n
        → v ≡ decimal_at minus (unsigned_abs d.mantissa * 10 ^ k) (d.exponent -ℤ pos k)
    by (suc n) up = absurd (no-zeros-after v d n same ends up)
    by zero up = grind (arith, ints, signed-size, signed_times, apart)

-- the normal form of the literal's value is the decimal
normal-from_same : (minus : Bool) (n : ℕ) (e : ℤ) (len : ℕ) (d : Number) → n < 10 ^ len → len ≤ 255 → IsDecimal d
    → HasSameValue (decimal_at minus n e) d → normal (decimal_at minus n e) ≡ d
normal-from_same minus n e len d small short ok same = by (is_zero d) refl
  where
    v : Number
    v = decimal_at minus n e

    by : (b : Bool) → is_zero d ≡ b → normal (decimal_at minus n e) ≡ d
    by true z =
        let zero_d : d ≡ zero_number = zero-is d ok z in
        let none : unsigned_abs (to_signed minus n) ≡ 0 = zero-from_same v (subst (HasSameValue v) zero_d same) in
        let test = ap (λ (m : ℕ). m == 0) none in
        rw test (sym zero_d)
    by false z =
        let ends = nonzero-ends d ok z in
        let k = surplus d.exponent e in
        let is = value-apart v d same ends in
        let size =
        sym (size-signed _ (unsigned_abs d.mantissa * 10 ^ surplus d.exponent e)) ∙ sym (ap (λ x. unsigned_abs x.mantissa) is)
        ∙ size-signed minus n in
        let few = zeros-below n (unsigned_abs d.mantissa) (surplus d.exponent e) len size (omega (arith, ends)) small in
        ap normal is ∙ normal-tens (int_le d.mantissa (negsuc 0)) _ _ _ ends (omega arith)
        ∙ (λ i. record { mantissa = signed-size d.mantissa i; exponent = d.exponent })

pub number-from_spells : (text : List ℕ) (d : Number) → Spells text d → number_of text ≡ Ok d
number-from_spells text d s =
    let value =
    normal-from_same _ _ _ _ d
    (mantissa-small text s.literal) (omega (arith, mantissa-short text, s.short)) s.decimal s.value in
    let few = ap has_few_digits value ∙ first_so (has_few_digits d) _ s.decimal in
    let small =
    ap has_small_exponent value ∙ first_so (has_small_exponent d) (is_normal d)
    (second_so (has_few_digits d) (has_small_exponent d && is_normal d) s.decimal) in
    tests_pass _ _ _ _ _
    s.literal (le-ltb 255 _ s.short) few small
    ∙ ap (λ x. Ok x) value

-- ---- Literals whose value is not that of a decimal, and which of the two errors they have.

-- ---- the normal form has the fewest digits

shifted : (n k : ℕ) → n * 10 ^ suc k ≡ (n * 10 ^ k) * 10
shifted n k = rw pow-suc (grind arith)

same_tenth : (n k : ℕ) → n * 10 ≡ k * 10 → n ≡ k
same_tenth n k h = omega (arith, h)

ends_in_zero : (m q : ℕ) → 0 < m % 10 → m ≡ q * 10 → ⊥
ends_in_zero m q h e = omega (arith, h, e)

-- a number without trailing zeros is the least of those that differ from it only in trailing zeros
fewest : (b z m d : ℕ) → 0 < m % 10 → m * 10 ^ z ≡ d * 10 ^ b → m ≤ d
fewest (suc b) (suc z) m d ends e = fewest b z m d ends (same_tenth _ _ (sym (shifted m z) ∙ e ∙ shifted d b))
fewest _ _ m d ends e = grind (arith, below_product, pow_positive, times_one, ends_in_zero, shifted)

-- so of all numbers with the same value
fewest-of_value : (v d : Number) (m z : ℕ) → IsStripped (unsigned_abs v.mantissa) m z → 0 < m % 10 → HasSameValue v d
    → m ≤ unsigned_abs d.mantissa
fewest-of_value v d m z s ends same =
    let up = surplus v.exponent d.exponent in
    let down = surplus d.exponent v.exponent in
    let sizes =
    sym (unsigned_abs-mul v.mantissa _) ∙ ap unsigned_abs same ∙ unsigned_abs-mul d.mantissa _ in
    fewest down (z + up) m _ ends (joined m z up ∙ ap (λ (n : ℕ). n * 10 ^ up) s.value ∙ sizes)
  where
    joined : (m z k : ℕ) → m * 10 ^ (z + k) ≡ (m * 10 ^ z) * 10 ^ k
    joined m z k = ap (λ (p : ℕ). m * p) (pow-add 10 z k) ∙ grind arith

-- if any number of few digits has a value, its normal form has few digits
few-from_same : (minus : Bool) (n : ℕ) (e : ℤ) (len : ℕ) (d : Number) → n < 10 ^ len → len ≤ 255 → has_few_digits d ≡ true
    → HasSameValue (decimal_at minus n e) d → has_few_digits (normal (decimal_at minus n e)) ≡ true
few-from_same minus n e len d small short few same =
    normal-by (λ v. has_few_digits v ≡ true) minus n e len small short (λ _. refl)
    (λ m z s ends. (grind (
      arith,
      (fewest-of_value (decimal_at minus n e) d m z
          (subst (λ k. IsStripped k m z) (sym (size-signed minus n)) s) ends same),
      few,
    )))

-- ---- literals

digits-short : (text : List ℕ) → length text ≤ 255 → length (mantissa_digits text) ≤ 255
digits-short = grind (arith, mantissa-short)

normal-literal : (text : List ℕ) → is_literal text ≡ true → length text ≤ 255 → IsNormalOf (literal_value text) (read_value text)
normal-literal text literal short = search (rules, normal-same, mantissa-small, digits-short)

few-literal : (text : List ℕ) (d : Number) → is_literal text ≡ true → length text ≤ 255 → has_few_digits d ≡ true
    → HasSameValue (literal_value text) d → has_few_digits (read_value text) ≡ true
few-literal text d literal short few same = search (rules, few-from_same, mantissa-small, digits-short)

-- ---- which error it is

many-refused : (literal long few small : Bool) (v : Number) → answer_of literal long few small v ≡ Err TooManyDigits
    → (literal ≡ true) × (long ≡ false) × (few ≡ false)
many-refused = grind arith

range-refused : (literal long few small : Bool) (v : Number) → answer_of literal long few small v ≡ Err ExponentRange
    → (literal ≡ true) × (long ≡ false) × (few ≡ true)
range-refused = grind arith

tested : (text : List ℕ) (few small : Bool) → is_literal text ≡ true → length text ≤ 255 → has_few_digits (read_value text) ≡ few
    → has_small_exponent (read_value text) ≡ small → number_of text ≡ answer_of true false few small (read_value text)
tested = grind arith

many-from_number : (text : List ℕ) → number_of text ≡ Err TooManyDigits → HasTooManyDigits text
many-from_number = grind (arith, many-refused, ltb-false, few-literal)

number-from_many : (text : List ℕ) → HasTooManyDigits text → number_of text ≡ Err TooManyDigits
number-from_many text h = by _ refl
  where
    by : (b : Bool) → has_few_digits (read_value text) ≡ b → number_of text ≡ Err TooManyDigits
    by true few = absurd (h.many (read_value text) few (normal-literal text h.literal h.short).same)
    by false few = grind arith

range-from_number : (text : List ℕ) → number_of text ≡ Err ExponentRange → HasExponentOutOfRange text
range-from_number = grind (arith, range-refused, ltb-false, normal-literal, number-from_spells)

number-from_range : (text : List ℕ) → HasExponentOutOfRange text → number_of text ≡ Err ExponentRange
number-from_range text h = by _ refl
  where
    few : has_few_digits (read_value text) ≡ true
    few = few-literal text h.few.0 h.literal h.short h.few.1.0 h.few.1.1

    by : (b : Bool) → has_small_exponent (read_value text) ≡ b → number_of text ≡ Err ExponentRange
    by true small = grind (arith, normal-literal, both, few)
    by false small = grind (arith, few, tested)

pub digits-by_value : (text : List ℕ) → (number_of text ≡ Err TooManyDigits) ↔ HasTooManyDigits text
digits-by_value text = (many-from_number text, number-from_many text)

pub exponents-by_value : (text : List ℕ) → (number_of text ≡ Err ExponentRange) ↔ HasExponentOutOfRange text
exponents-by_value text = (range-from_number text, number-from_range text)
