-- The literal of a mantissa and an exponent is read as their value.
use Rattle.std.proofs.Common.{◌≡◌, refl, sym, ap, subst, ◌∙◌, List, [], ◌∷◌, ◌++◌, length, ℕ, Bool, true, false, arith, ◌<◌, ◌≤◌, ◌^◌}
use Rattle.std.proofs.{Common.length-append, lemmas.{Fmt.length-decimal-le_wide, List.append-nil}}
use Rattle.std.specs.{Prelude.{ℤ, pos, negsuc, ◌-ℤ◌, unsigned_abs, not, if◌then◌else◌, Result, Ok, Err}, List.{before_first, after_first}}
use Rattle.std.specs.Fmt.{decimal, signed_decimal}
use Rattle.mpslp_decimal.specs.{Decimal.{Number, normal, has_few_digits, has_small_exponent}, Literal.{is_digit, is_minus, without_sign}}
use Rattle.mpslp_decimal.specs.Literal.{is_point, is_exponent_mark, digits_sum, are_digits, to_signed, signed_value, unsigned_part}
use Rattle.mpslp_decimal.specs.Literal.{fraction_digits, mantissa_digits, exponent_part, is_literal, literal_value, number_of}
use Rattle.mpslp_decimal.specs.declared.literal.NumberFault.{NumberFault, TheVariants.{BadNumber, LongNumber, TooManyDigits, ExponentRange}}
use Rattle.mpslp_decimal.proofs.CutLemmas.{Each, Each-weaker, before-at, after-at, after-none, before-none, AreDigits, digit-no_mark}
use Rattle.mpslp_decimal.proofs.{CutLemmas.{digit-no_point, digit-no_minus, decimal-spells}, NumberTextLemmas.are-digits}
use Rattle.mpslp_types.{specs.declared.faults.FaultKind.FaultKind, proofs.BoolLemmas.{both_so, or_right}}
use Rattle.mpslp_lines.specs.FaultTests.{kind_of_number_fault}
use Rattle.mpslp_c.specs.Stored.{decimal_given, literal_text}
use lib.Signed.{mag}

-- ---- a sign and digits

abbrev sign_of : ℤ → List ℕ
sign_of (pos n) = []
sign_of (negsuc n) = 45 ∷ []

abbrev size_digits : ℤ → List ℕ
size_digits z = decimal (unsigned_abs z)

parts : (z : ℤ) → signed_decimal z ≡ sign_of z ++ size_digits z
parts = grind arith

-- what begins with a digit
no_sign : (ds : List ℕ) → AreDigits ds → 0 < length ds → without_sign ds ≡ ds
no_sign = grind arith

no_minus : (ds rest : List ℕ) → AreDigits ds → 0 < length ds → is_minus (ds ++ rest) ≡ false
no_minus [] rest h some = grind arith
no_minus (d ∷ ds) rest h some = digit-no_minus d h.0

no_mark : (ds : List ℕ) → AreDigits ds → Each (λ b. is_exponent_mark b ≡ false) ds
no_mark ds h = Each-weaker (λ b. is_digit b ≡ true) (λ b. is_exponent_mark b ≡ false) digit-no_mark ds h

no_point : (ds : List ℕ) → AreDigits ds → Each (λ b. is_point b ≡ false) ds
no_point ds h = Each-weaker (λ b. is_digit b ≡ true) (λ b. is_point b ≡ false) digit-no_point ds h

signed_no_mark : (z : ℤ) (ds : List ℕ) → AreDigits ds → Each (λ b. is_exponent_mark b ≡ false) (sign_of z ++ ds)
signed_no_mark = grind (arith, no_mark)

unsigned : (z : ℤ) (ds : List ℕ) → AreDigits ds → 0 < length ds → without_sign (sign_of z ++ ds) ≡ ds
unsigned = grind arith

-- the value of a sign and the digits of the absolute value
valued : (z : ℤ) (ds rest : List ℕ) → AreDigits ds → 0 < length ds → digits_sum ds ≡ unsigned_abs z
    → to_signed (is_minus ((sign_of z ++ ds) ++ rest)) (digits_sum ds) ≡ z
valued = grind (arith, no_minus)

-- ---- the literal

pub record IsRead (mantissa exponent : ℤ) : Type 0 where
  pub literal : is_literal (literal_text mantissa exponent) ≡ true
  pub short : length (literal_text mantissa exponent) ≤ 255
  pub value : literal_value (literal_text mantissa exponent) ≡ record { mantissa = mantissa; exponent = exponent }

sign_len : (z : ℤ) → length (sign_of z) ≤ 1
sign_len = grind arith

digits_len : (n : ℕ) → n < 10 ^ 60 → length (decimal n) ≤ 60
digits_len = grind (arith, length-decimal-le_wide)

pub literal-read : (m e : ℤ) → unsigned_abs m < 10 ^ 60 → unsigned_abs e < 10 ^ 60 → IsRead m e
literal-read m e few small =
    let ds = size_digits m in
    let es = size_digits e in
    let d = decimal-spells (unsigned_abs m) (omega (arith, few)) in
    let x = decimal-spells (unsigned_abs e) (omega (arith, small)) in
    let front = sign_of m ++ ds in
    let back = sign_of e ++ es in
    let text : literal_text m e ≡ front ++ 101 ∷ back = (λ i. parts m i ++ 101 ∷ parts e i) in
    let marks = signed_no_mark m ds d.digits in
    let begins : before_first is_exponent_mark (front ++ 101 ∷ back) ≡ front =
    before-at is_exponent_mark front back 101 marks refl in
    let ends : exponent_part (front ++ 101 ∷ back) ≡ back = after-at is_exponent_mark front back 101 marks refl in
    let bare : unsigned_part (front ++ 101 ∷ back) ≡ ds = ap without_sign begins ∙ unsigned m ds d.digits d.some in
    let fraction : fraction_digits (front ++ 101 ∷ back) ≡ [] = ap (after_first is_point) bare
    ∙ after-none is_point ds (no_point ds d.digits) in
    let whole : mantissa_digits (front ++ 101 ∷ back) ≡ ds =
    (λ i. before_first is_point (bare i) ++ fraction i) ∙ append-nil (before_first is_point ds)
    ∙ before-none is_point ds (no_point ds d.digits) in
    let exponent_bare : without_sign (exponent_part (front ++ 101 ∷ back)) ≡ es =
    ap without_sign ends ∙ unsigned e es x.digits x.some in
    let good : are_digits (without_sign (exponent_part (front ++ 101 ∷ back))) ≡ true = ap are_digits exponent_bare
    ∙ are-digits es x.digits x.some in
    let exponent_value : signed_value (exponent_part (front ++ 101 ∷ back)) ≡ e =
    ap signed_value ends
    ∙ (λ i. to_signed (is_minus (sym (append-nil back) i)) (digits_sum (unsigned e es x.digits x.some i)))
    ∙ valued e es [] x.digits x.some x.value in
    let lit : is_literal (front ++ 101 ∷ back) ≡ true =
    both_so (are_digits (mantissa_digits (front ++ 101 ∷ back))) _ (ap are_digits whole ∙ are-digits ds d.digits d.some)
    (or_right _ _ good) in
    let mantissa_value : to_signed (is_minus (front ++ 101 ∷ back)) (digits_sum (mantissa_digits (front ++ 101 ∷ back))) ≡ m =
    ap (λ (t : List ℕ). to_signed (is_minus (front ++ 101 ∷ back)) (digits_sum t)) whole
    ∙ valued m ds (101 ∷ back) d.digits d.some d.value in
    let none : e -ℤ pos 0 ≡ e = no_less e in
    let value : literal_value (front ++ 101 ∷ back) ≡ record { mantissa = m; exponent = e } =
    (λ i. record { mantissa = mantissa_value i; exponent = exponent_value i -ℤ pos (length (fraction i)) })
    ∙ (λ i. record { mantissa = m; exponent = none i }) in
    let size : length (front ++ 101 ∷ back) ≤ 255 =
    omega (
      arith,
      length-append front (101 ∷ back),
      length-append (sign_of m) ds,
      length-append (sign_of e) es,
      sign_len
          m,
      sign_len e,
      digits_len (unsigned_abs m) few,
      digits_len (unsigned_abs e) small,
    ) in
    record {
      literal = ap is_literal text ∙ lit;
      short = subst (λ (t : List ℕ). length t ≤ 255) (sym text) size;
      value = ap literal_value text ∙ value;
    }
  where
    no_less : (z : ℤ) → z -ℤ pos 0 ≡ z
    no_less = grind arith

-- numbers of 128 and of 32 bits are short enough
pub wide-short : (z : ℤ) → mag z < 2 ^ 127 → unsigned_abs z < 10 ^ 60
wide-short = grind arith

pub short-short : (z : ℤ) → mag z < 2 ^ 31 → unsigned_abs z < 10 ^ 60
short-short = grind arith

-- ---- the result of the literal

abbrev read_of : Bool → Bool → Bool → Bool → Number → Result Number NumberFault
read_of lit long few small v = if not lit then Err BadNumber else
    (if long then Err LongNumber else (if not few then Err TooManyDigits else (if not small then Err ExponentRange else Ok v)))

abbrev given_of : Bool → Bool → Number → Result Number FaultKind
given_of few small v =
    if not few then Err (kind_of_number_fault TooManyDigits)
    else (if not small then Err (kind_of_number_fault ExponentRange) else Ok v)

chosen : (few small : Bool) (v w : Number) → read_of true false few small v ≡ Ok w → given_of few small v ≡ Ok w
chosen = grind arith

refused : (few small : Bool) (v : Number) (fault : NumberFault) → read_of true false few small v ≡ Err fault
    → given_of few small v ≡ Err (kind_of_number_fault fault)
refused = grind arith

read_is : (m e : ℤ) → IsRead m e →
    number_of (literal_text m e) ≡ read_of true false (has_few_digits (normal (record { mantissa = m; exponent = e })))
    (has_small_exponent (normal (record { mantissa = m; exponent = e }))) (normal (record { mantissa = m; exponent = e }))
read_is = grind arith

pub given-value : (m e : ℤ) (v : Number) → IsRead m e → number_of (literal_text m e) ≡ Ok v
    → decimal_given (record { mantissa = m; exponent = e }) ≡ Ok v
given-value = grind arith

pub given-fault : (m e : ℤ) (fault : NumberFault) → IsRead m e → number_of (literal_text m e) ≡ Err fault
    → decimal_given (record { mantissa = m; exponent = e }) ≡ Err (kind_of_number_fault fault)
given-fault m e fault r h = let value = normal (record { mantissa = m; exponent = e }) in
    refused (has_few_digits value) (has_small_exponent value) value fault (sym (read_is m e r) ∙ h)
