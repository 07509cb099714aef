-- The text of a decimal is read back as the decimal.
use Rattle.std.proofs.Common.{Bool, List, [], add-one, ap, append_assoc, arith, drop, false, length, length-append, length-drop, refl}
use Rattle.std.proofs.Common.{replicate, subst, suc, sym, take, true, zero, ℕ, ◌%◌, ◌*◌, ◌++◌, ◌+◌, ◌-◌, ◌<◌, ◌^◌, ◌∙◌, ◌∷◌, ◌≡◌, ◌≤◌}
use Rattle.std.proofs.lemmas.Bool.{Decides.nat_tests, le-ltb, leb-true, lt-ltb, ltb-true}
use Rattle.std.proofs.lemmas.{Fmt.{decimal_digit, length-decimal-le, length-decimal-le_wide}, Int.ints}
use Rattle.std.proofs.lemmas.List.{append-nil, length-replicate, take-replicate}
use Rattle.std.specs.{Cmp.first_so, Fmt.{decimal, digits, signed_decimal}}
use Rattle.std.specs.{List.{after_first, before_first, list_any}, Prelude.{Err, Ok, Result, codes, if◌then◌else◌, int_le, nat_le, nat_lt}}
use Rattle.std.specs.Prelude.{neg_ℤ, negsuc, not, pos, unsigned_abs, ℤ, ◌&&◌, ◌-ℤ◌, ◌==◌, ◌||◌, ◌≤ℤ◌}
use Rattle.mpslp_decimal.proofs.CutLemmas.{AreDigits, Each, Each-append, Each-weaker, Spells, after-at, after-none, any-none, before-at}
use Rattle.mpslp_decimal.proofs.CutLemmas.{before-none, decimal-spells, digit-no_mark, digit-no_point, digits_sum-append, digits_sum-zeros}
use Rattle.mpslp_decimal.proofs.{CutLemmas.{list_all-digits, zeros_are_digits}, NormalLemmas.{decimal_at, normal-tens}}
use Rattle.mpslp_decimal.specs.Decimal.{IsDecimal, Number, has_few_digits, has_small_exponent, is_negative, is_normal, is_zero, normal}
use Rattle.mpslp_decimal.specs.{Decimal.{trailing_zeros, zero_number}, Literal.{are_digits, digits_sum, exponent_part, fraction_digits}}
use Rattle.mpslp_decimal.specs.Literal.{is_digit, is_exponent_mark, is_minus, is_point, mantissa_digits, number_of, signed_value, to_signed}
use Rattle.mpslp_decimal.specs.{Literal.without_sign, NumberText.{number_text, scaled_text, with_point}}
use Rattle.mpslp_decimal.specs.declared.literal.NumberFault.{NumberFault, TheVariants.{BadNumber, ExponentRange, LongNumber, TooManyDigits}}

abbrev NoMark : List ℕ → Type 0
NoMark t = Each (λ b. is_exponent_mark b ≡ false) t

abbrev BeginsWithDigit : List ℕ → Type 0
BeginsWithDigit [] = ⊥
BeginsWithDigit (b ∷ _) = is_digit b ≡ true

abbrev sign_text : Bool → List ℕ
sign_text minus = if minus then 45 ∷ [] else []

-- what a reader sees in a text
pub record Reading (text : List ℕ) (minus : Bool) (digits fraction ex : List ℕ) : Type 0 where
  pub minus_is : is_minus text ≡ minus
  pub mantissa : mantissa_digits text ≡ digits
  pub fraction_is : fraction_digits text ≡ fraction
  pub exponent : exponent_part text ≡ ex
  pub good : (not (list_any is_exponent_mark text) || are_digits (without_sign (exponent_part text))) ≡ true

-- the result of the tests in turn
abbrev pub answer_of : Bool → Bool → Bool → Bool → Number → Result Number NumberFault
answer_of literal long few small v =
    if not literal then Err BadNumber
    else (if long then Err LongNumber
    else (if not few then Err TooManyDigits else (if not small then Err ExponentRange else Ok v)))

pub tests_pass : (literal long few small : Bool) (v : Number) → literal ≡ true → long ≡ false → few ≡ true → small ≡ true
    → answer_of literal long few small v ≡ Ok v
tests_pass lit long few small v a b c d = rw (a, b, c, d) refl

pub number-read : (text : List ℕ) (d : Number) (minus : Bool) (digits fraction ex : List ℕ) →
    Reading text minus digits fraction ex → are_digits digits ≡ true
    → length text ≤ 255 → IsDecimal d →
    normal (decimal_at minus (digits_sum digits) (signed_value ex -ℤ pos (length fraction))) ≡ d
    → number_of text ≡ Ok d
number-read = grind (arith, tests_pass, le-ltb)

-- ---- a sign, digits with or without a point, and an exponent part or none

unsign : (minus : Bool) (front : List ℕ) → BeginsWithDigit front → without_sign (sign_text minus ++ front) ≡ front
unsign = grind arith

-- the digits before the point and after it, if the part before the exponent part is known
record Digits (front digits fraction : List ℕ) : Type 0 where
  begins : BeginsWithDigit front
  no_mark : NoMark front
  before_after : before_first is_point front ++ after_first is_point front ≡ digits
  after : after_first is_point front ≡ fraction

pub no_mark-digits : (ds : List ℕ) → AreDigits ds → Each (λ b. is_exponent_mark b ≡ false) ds
no_mark-digits ds h = Each-weaker (λ b. is_digit b ≡ true) (λ b. is_exponent_mark b ≡ false) digit-no_mark ds h

pub no_point-digits : (ds : List ℕ) → AreDigits ds → Each (λ b. is_point b ≡ false) ds
no_point-digits ds h = Each-weaker (λ b. is_digit b ≡ true) (λ b. is_point b ≡ false) digit-no_point ds h

digits-whole : (ds : List ℕ) → AreDigits ds → 0 < length ds → Digits ds ds []
digits-whole = grind (arith, no_point-digits, after-none, no_mark-digits, before-none, append-nil)

begins-append : (xs ys : List ℕ) → BeginsWithDigit xs → BeginsWithDigit (xs ++ ys)
begins-append = grind arith

digits-pointed : (left right : List ℕ) → AreDigits left → AreDigits right → 0 < length left
    → Digits (left ++ 46 ∷ right) (left ++ right) right
digits-pointed left right h k n =
    let points = no_point-digits left h in
    let after = after-at is_point left right 46 points refl in
    record {
      begins = begins-append left _ (grind (arith, h, n));
      no_mark = Each-append (λ b. is_exponent_mark b ≡ false) left (46 ∷ right) (no_mark-digits left h)
          (refl, no_mark-digits right k);
      before_after = (λ i. before-at is_point left right 46 points refl i ++ after i);
      after = after;
    }

pub are-digits : (ds : List ℕ) → AreDigits ds → 0 < length ds → are_digits ds ≡ true
are-digits = grind (arith, lt-ltb, list_all-digits)

-- ---- the four forms of text

record Mantissa (m : ℕ) (ds : List ℕ) : Type 0 where
  spells : Spells m ds
  short : length ds ≤ 36
  ends : 0 < m % 10

abbrev zeros_text : ℕ → List ℕ
zeros_text n = replicate n 48

sign_short : (minus : Bool) (t : List ℕ) → length (sign_text minus ++ t) ≤ 1 + length t
sign_short = grind arith

minus-of : (minus : Bool) (front tail : List ℕ) → BeginsWithDigit front → is_minus ((sign_text minus ++ front) ++ tail) ≡ minus
minus-of = grind arith

no_mark-signed : (minus : Bool) (front : List ℕ) → NoMark front → NoMark (sign_text minus ++ front)
no_mark-signed = grind arith

-- digits and k zeros
whole-form : (minus : Bool) (m k : ℕ) (ds : List ℕ) → Mantissa m ds → k ≤ 5 → IsDecimal (decimal_at minus m (pos k))
    → number_of (sign_text minus ++ (ds ++ zeros_text k)) ≡ Ok (decimal_at minus m (pos k))
whole-form minus m k ds h l ok =
    let front = ds ++ zeros_text k in
    let all = Each-append (λ b. is_digit b ≡ true) ds (zeros_text k) h.spells.digits (zeros_are_digits k) in
    let zeros : length (zeros_text k) ≡ k = length-replicate k 48 in
    let len = length-append ds (zeros_text k) in
    let some : 0 < length (ds ++ zeros_text k) = omega (arith, h.spells.some) in
    let sum = digits_sum-append ds (zeros_text k) in
    let value : digits_sum (ds ++ zeros_text k) ≡ m * 10 ^ k = sum ∙ (λ i. h.spells.value i * 10 ^ zeros i + digits_sum-zeros k i)
    ∙ omega arith in
    let exponents : pos 0 -ℤ pos 0 ≡ pos k -ℤ pos k = omega (arith, ints) in
    let short : length (sign_text minus ++ (ds ++ zeros_text k)) ≤ 255 =
    omega (arith, sign_short minus (ds ++ zeros_text k), h.short) in
    number-read (sign_text minus ++ front) _ minus front [] [] (grind (
      arith,
      no_mark-signed,
      before-none,
      unsign,
      append-nil,
      minus-of,
      after-none,
      any-none,
      digits-whole front all some,
    )) (are-digits front all some)
    short ok ((λ i. normal (decimal_at minus (value i) (exponents i))) ∙ normal-tens minus m k (pos k) h.ends (omega arith))

or_second : (x y : Bool) → y ≡ true → (x || y) ≡ true
or_second = grind arith

exponent-form : (minus : Bool) (m : ℕ) (e : ℤ) (ds ex : List ℕ) → Mantissa m ds → signed_value ex ≡ e →
    are_digits (without_sign ex) ≡ true → length ex ≤ 22 → IsDecimal (decimal_at minus m e) →
    number_of ((sign_text minus ++ ds) ++ 101 ∷ ex) ≡ Ok (decimal_at minus m e)
exponent-form minus m e ds ex h v good few ok =
    let all = h.spells.digits in
    let some = h.spells.some in
    let once : digits_sum ds ≡ m * 10 ^ 0 = omega (arith, h.spells.value) in
    let short : length ((sign_text minus ++ ds) ++ 101 ∷ ex) ≤ 255 =
    omega (arith, length-append (sign_text minus ++ ds) (101 ∷ ex), sign_short minus ds, h.short) in
    number-read _ _ minus ds [] ex (grind
    (arith, no_mark-signed, before-at, unsign, after-at, minus-of, or_second, digits-whole ds all some, good))
    (are-digits ds all some) short ok ((λ i. normal (decimal_at minus (once i) (v i -ℤ pos 0)))
    ∙ normal-tens minus m 0 e h.ends (omega arith))

take-drop : (n : ℕ) (xs : List ℕ) → take n xs ++ drop n xs ≡ xs
take-drop (suc n) (x ∷ xs) = ap (λ y. x ∷ y) (take-drop n xs)
take-drop _ _ = refl

front_digits : (xs ys : List ℕ) → AreDigits (xs ++ ys) → AreDigits xs × AreDigits ys
front_digits [] ys h = (tt, h)
front_digits (x ∷ xs) ys h = grind (arith, front_digits xs ys h.1)

padded-spells : (j m : ℕ) (ds : List ℕ) → Spells m ds → Spells m (replicate j 48 ++ ds)
padded-spells j m ds s =
    record {
      digits = Each-append (λ b. is_digit b ≡ true) (replicate j 48) ds (zeros_are_digits j) s.digits;
      value = digits_sum-append _ ds ∙ none_plus _ _ _ (digits_sum-zeros j) ∙ s.value;
      some = omega (arith, length-append (replicate j 48) ds, s.some);
    }
  where
    none_plus : (a p b : ℕ) → a ≡ 0 → a * p + b ≡ b
    none_plus a p b e = rw e (omega arith)

-- a point before the last n + 1 digits
cut-form : (minus : Bool) (m n c : ℕ) (padded : List ℕ) → Spells m padded → 0 < m % 10 → c + (n + 1) ≡ length padded → 0 < c
    → length padded ≤ 60 → IsDecimal (decimal_at minus m (negsuc n))
    → number_of (sign_text minus ++ (take c padded ++ 46 ∷ drop c padded)) ≡ Ok (decimal_at minus m (negsuc n))
cut-form minus m n c padded s ends at some few ok =
    let left = take c padded in
    let right = drop c padded in
    let whole = take-drop c padded in
    let each = front_digits left right (subst AreDigits (sym whole) s.digits) in
    let right_len : length (drop c padded) ≡ n + 1 = length-drop c padded ∙ omega (arith, at) in
    let total = sym (length-append left right) ∙ ap length whole in
    let left_some : 0 < length (take c padded) = omega (arith, right_len, total, at) in
    let some_all : 0 < length (take c padded ++ drop c padded) = omega (arith, ap length whole, at) in
    let value : digits_sum (take c padded ++ drop c padded) ≡ m * 10 ^ 0 = ap digits_sum whole ∙ s.value ∙ omega arith in
    let exponents : pos 0 -ℤ pos (length (drop c padded)) ≡ negsuc n -ℤ pos 0 =
    ap (λ x. pos 0 -ℤ pos x) right_len ∙ omega (arith, ints) in
    let short : length (sign_text minus ++ (take c padded ++ 46 ∷ drop c padded)) ≤ 255 =
    omega (
      arith,
      sign_short minus (take c padded ++ 46 ∷ drop c padded),
      length-append (take c padded)
          (46 ∷ drop c padded),
      total,
      few,
    ) in
    number-read _ _ minus (left ++ right) right []
    (grind (
      arith,
      no_mark-signed,
      before-none,
      unsign,
      append-nil,
      minus-of,
      after-none,
      any-none,
      digits-pointed left right each.0 each.1
          left_some,
    )) (are-digits _ (Each-append (λ b. is_digit b ≡ true) left right each.0 each.1) some_all)
    short ok ((λ i. normal (decimal_at minus (value i) (exponents i))) ∙ normal-tens minus m 0 _ ends (omega arith))

point-form : (minus : Bool) (m n : ℕ) (ds : List ℕ) → Mantissa m ds → n < 18 → IsDecimal (decimal_at minus m (negsuc n))
    → number_of (sign_text minus ++ with_point (n + 1) ds) ≡ Ok (decimal_at minus m (negsuc n))
point-form minus m n ds h l ok =
    let len =
    length-append _ ds ∙ ap (λ (x : ℕ). x + length ds) (length-replicate ((n + 1) + 1 - length ds) 48) in
    cut-form minus m n _ _
    (padded-spells ((n + 1) + 1 - length ds) m ds h.spells) h.ends (omega (arith, len)) (omega (arith, len))
    (omega (arith, len, h.short)) ok

-- ---- every decimal

pub signed-size : (z : ℤ) → to_signed (int_le z (negsuc 0)) (unsigned_abs z) ≡ z
signed-size = grind arith

scaled-zeros : (ds : List ℕ) (n : ℕ) → nat_le n 5 ≡ true → scaled_text ds (pos n) ≡ ds ++ zeros_text n
scaled-zeros ds n e = rw e refl

scaled-point : (ds : List ℕ) (n : ℕ) → nat_lt n 18 ≡ true → scaled_text ds (negsuc n) ≡ with_point (n + 1) ds
scaled-point ds n e = rw e refl

abbrev read_signed : Bool → List ℕ → Result Number NumberFault
read_signed minus text = number_of (sign_text minus ++ text)

grouped : (minus : Bool) (ds ex : List ℕ) → sign_text minus ++ (ds ++ 101 ∷ ex) ≡ (sign_text minus ++ ds) ++ 101 ∷ ex
grouped = grind arith

few_of : (e : ℤ) (minus : Bool) (m : ℕ) → IsDecimal (decimal_at minus m e) → has_small_exponent (decimal_at minus m e) ≡ true
few_of = grind arith

exponent_text : (n : ℕ) → n ≤ 500 → Spells n (decimal n) × (length (decimal n) ≤ 20)
exponent_text = grind (arith, decimal-spells, length-decimal-le)

no_sign : (front : List ℕ) → BeginsWithDigit front → without_sign front ≡ front
no_sign = grind arith

begins-digits : (ds : List ℕ) → AreDigits ds → 0 < length ds → BeginsWithDigit ds
begins-digits = grind arith

after_e : (t : List ℕ) → codes "e" ++ t ≡ 101 ∷ t
after_e t = refl

after_e_minus : (t : List ℕ) → codes "e-" ++ t ≡ 101 ∷ 45 ∷ t
after_e_minus t = refl

mantissa-form : (m : ℕ) → m < 10 ^ 36 → 0 < m % 10 → Mantissa m (decimal m)
mantissa-form = grind (arith, decimal-spells, length-decimal-le_wide)

pub scaled-read : (minus : Bool) (m : ℕ) (e : ℤ) → m < 10 ^ 36 → 0 < m % 10 → IsDecimal (decimal_at minus m e)
    → read_signed minus (scaled_text (decimal m) e) ≡ Ok (decimal_at minus m e)
scaled-read minus m (pos n) small ends ok = by (nat_le n 5) refl
  where
    by : (b : Bool) → nat_le n 5 ≡ b → read_signed minus (scaled_text (decimal m) (pos n)) ≡ Ok (decimal_at minus m (pos n))
    by true e = ap (read_signed minus) (scaled-zeros _ n e)
        ∙ whole-form minus m n (decimal m) (mantissa-form m small ends) (leb-true n 5 e) ok
    by false e =
        let few : n ≤ 500 = leb-true n 500 (few_of (pos n) minus m ok) in
        let x = exponent_text n few in
        ap (read_signed minus) (grind (arith, append_assoc, after_e, e)) ∙ ap number_of (grouped minus _ (decimal n))
        ∙ exponent-form minus m (pos n) _ _ (mantissa-form m small ends)
        (grind (arith, x.0)) (grind (arith, no_sign, begins-digits, are-digits, x.0)) (omega (arith, x.1)) ok
scaled-read minus m (negsuc n) small ends ok = by _ refl
  where
    by : (b : Bool) → nat_lt n 18 ≡ b →
        read_signed minus (scaled_text (decimal m) (negsuc n)) ≡ Ok (decimal_at minus m (negsuc n))
    by true e = ap (read_signed minus) (scaled-point (decimal m) n e)
        ∙ point-form minus m n (decimal m) (mantissa-form m small ends) (ltb-true n 18 e) ok
    by false e =
        let few = leb-true n 499 (first_so (int_le (negsuc 499) (negsuc n)) _ (few_of (negsuc n) minus m ok)) in
        let x = exponent_text (n + 1) (omega (arith, few)) in
        let v = ap (λ (k : ℕ). neg_ℤ (pos k)) (x.0.value ∙ add-one n) in
        ap (read_signed minus) (grind (arith, append_assoc, after_e_minus, e))
        ∙ ap number_of (grouped minus (decimal m) (45 ∷ decimal (n + 1)))
        ∙ exponent-form minus m _ _ _ (grind (arith, decimal-spells, length-decimal-le_wide, small, ends)) v
        (are-digits (decimal (n + 1)) x.0.digits x.0.some) (omega (arith, x.1)) ok

-- the parts of a decimal that is not 0
pub nonzero-ends : (d : Number) → IsDecimal d → is_zero d ≡ false → 0 < unsigned_abs d.mantissa % 10
nonzero-ends = grind arith

pub zero-is : (d : Number) → IsDecimal d → is_zero d ≡ true → d ≡ zero_number
zero-is = grind arith

zero-read : number_of (codes "0") ≡ Ok zero_number
unfolding trailing_zeros
zero-read = refl

pub number-text : (d : Number) → IsDecimal d → number_of (number_text d) ≡ Ok d
number-text d ok = by _ refl
  where
    whole : decimal_at (is_negative d) (unsigned_abs d.mantissa) d.exponent ≡ d
    whole = λ i. record { mantissa = signed-size d.mantissa i; exponent = d.exponent }

    nonzero_text : is_zero d ≡ false → number_text d ≡ sign_text (is_negative d)
        ++ scaled_text (decimal (unsigned_abs d.mantissa)) d.exponent
    nonzero_text = grind arith

    by : (b : Bool) → is_zero d ≡ b → number_of (number_text d) ≡ Ok d
    by true z = grind (arith, zero-read, zero-is)
    by false z =
        let small = ltb-true _ _ (first_so (has_few_digits d) (has_small_exponent d && is_normal d) ok) in
        ap number_of (nonzero_text z)
        ∙ scaled-read _ _ _ small (nonzero-ends d ok z) (subst IsDecimal (sym whole) ok)
        ∙ ap (λ x. Ok x) whole

-- ---- its bytes, and its length

-- a text that is read has at least one and at most 255 bytes
pub read-short : (text : List ℕ) (d : Number) → number_of text ≡ Ok d → length text ≤ 255
read-short = grind arith

-- ---- the pieces that are printed

zero-pieces : sign_text (is_negative zero_number) ++ scaled_text (decimal (unsigned_abs zero_number.mantissa))
    zero_number.exponent
    ≡ codes "0"
unfolding digits
zero-pieces = refl

-- a text without its case for zero
number_text-is : (d : Number) → IsDecimal d →
    sign_text (is_negative d) ++ scaled_text (decimal (unsigned_abs d.mantissa)) d.exponent ≡ number_text d
number_text-is = grind (arith, zero-is, zero-pieces)

pub printed-pieces : (d : Number) (none sign all ds : List ℕ) (e : ℤ) → IsDecimal d → none ≡ [] →
    sign ≡ none ++ sign_text (is_negative d) → all ≡ sign ++ scaled_text ds e → ds ≡ decimal (unsigned_abs d.mantissa) →
    e ≡ d.exponent → all ≡ number_text d
printed-pieces = grind (arith, number_text-is)

not-zero : (n : ℕ) → (suc n == 0) ≡ false
not-zero = grind (arith, nat_tests)

none-below : (n : ℕ) → nat_le 0 n ≡ true
none-below = grind (arith, nat_tests)

-- an integer is printed as it is
pub integer-text : (d : Number) (n : ℤ) → d.mantissa ≡ n → d.exponent ≡ pos 0 → signed_decimal n ≡ number_text d
integer-text d n m e = sym (ap number_text (λ i. record { mantissa = m i; exponent = e i }) ∙ by n)
  where
    second : (b : Bool) (xs ys : List ℕ) → b ≡ false → (if b then xs else ys) ≡ ys
    second b xs ys h = rw h refl

    first : (b : Bool) (xs ys zs : List ℕ) → b ≡ true → (if b then xs else ys) ++ zs ≡ xs ++ zs
    first b xs ys zs h = rw h refl

    by : (n : ℤ) → number_text (record { mantissa = n; exponent = pos 0 }) ≡ signed_decimal n
    by (pos zero) = sym (decimal_digit 0 (omega arith))
    by (pos (suc n)) = second (suc n == 0) (codes "0") _ (not-zero n) ∙ append-nil (decimal (suc n))
    by (negsuc n) =
        second (suc n == 0) (codes "0") _ (not-zero n) ∙ first (nat_le 0 n) (codes "-") [] (decimal (suc n) ++ []) (none-below n)
        ∙ ap (λ x. 45 ∷ x) (append-nil (decimal (suc n)))

abbrev all_digits : List ℕ
all_digits = 48 ∷ 49 ∷ 50 ∷ 51 ∷ 52 ∷ 53 ∷ 54 ∷ 55 ∷ 56 ∷ 57 ∷ []

digit-slice : (n : ℕ) → n < 10 → take (n + 1 - n) (drop n all_digits) ≡ (48 + n) ∷ []
digit-slice zero h = refl
digit-slice (suc zero) h = refl
digit-slice (suc (suc zero)) h = refl
digit-slice (suc (suc (suc zero))) h = refl
digit-slice (suc (suc (suc (suc zero)))) h = refl
digit-slice (suc (suc (suc (suc (suc zero))))) h = refl
digit-slice (suc (suc (suc (suc (suc (suc zero)))))) h = refl
digit-slice (suc (suc (suc (suc (suc (suc (suc zero))))))) h = refl
digit-slice (suc (suc (suc (suc (suc (suc (suc (suc zero)))))))) h = refl
digit-slice (suc (suc (suc (suc (suc (suc (suc (suc (suc zero))))))))) h = refl
digit-slice (suc (suc (suc (suc (suc (suc (suc (suc (suc (suc n)))))))))) h = absurd (omega (arith, h))

-- a digit is printed as it is
pub digit-text : (d : Number) (m : ℤ) → m ≡ d.mantissa → d.exponent ≡ pos 0 → pos 0 ≤ℤ m → m ≤ℤ pos 9
    → take (unsigned_abs m + 1 - unsigned_abs m) (drop (unsigned_abs m) all_digits) ≡ number_text d
digit-text d (negsuc n) m e low high = absurd (omega (arith, ints, low))
digit-text d (pos n) m e low high =
    let small : n < 10 = omega (arith, ints, high) in
    digit-slice n small ∙ sym (decimal_digit n small) ∙ integer-text d (pos n) (sym m) e

-- decimals with the same text are equal
pub one-text : (a b : Number) → IsDecimal a → IsDecimal b → number_text a ≡ number_text b → a ≡ b
one-text a b p q same = same_Ok (sym (number-text a p) ∙ ap number_of same ∙ number-text b q)
  where
    same_Ok : ◌≡◌ {A = Result Number NumberFault} (Ok a) (Ok b) → a ≡ b
    same_Ok e = cc

-- ---- Digits after a point and zeros.

-- one zero before the point, the others after it
few-digits : (ds : List ℕ) (p k : ℕ) → p ≡ k + length ds → with_point p ds ≡ 48 ∷ 46 ∷ (replicate k 48 ++ ds)
few-digits = grind (arith, replicate, length-append, length-replicate)

-- the three pieces that are appended
pub point-pieces : (before first second all ds : List ℕ) (p : ℕ) → first ≡ before ++ 48 ∷ 46 ∷ []
    → second ≡ first ++ take (p - length ds) (replicate 20 48) → all ≡ second ++ ds
    → length ds ≤ p → p ≤ 18 → all ≡ before ++ with_point p ds
point-pieces before first second all ds p a b c fits few =
    let zeros : take (p - length ds) (replicate 20 48) ≡ replicate (p - length ds) 48 =
    take-replicate (p - length ds) 20 48 (omega arith) in
    c ∙ ap (λ (x : List ℕ). x ++ ds) (b ∙ (λ i. a i ++ zeros i))
    ∙ append_assoc (before ++ 48 ∷ 46 ∷ []) (replicate (p - length ds) 48) ds
    ∙ append_assoc before (48 ∷ 46 ∷ []) (replicate (p - length ds) 48 ++ ds)
    ∙ ap (λ (x : List ℕ). before ++ x) (sym (few-digits ds p (p - length ds) (omega arith)))
