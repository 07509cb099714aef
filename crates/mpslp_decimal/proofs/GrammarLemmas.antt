-- A literal is its mantissa, read from the start, and an exponent part.
use Rattle.std.proofs.Common.{Bool, List, [], ap, append_assoc, arith, cond, drop, false, get_or, length, length-append, length-drop}
use Rattle.std.proofs.Common.{length-take, lit<, refl, rules, subst, suc, sym, take, true, ℕ, ◌*◌, ◌++◌, ◌+◌, ◌-◌, ◌<◌, ◌^◌, ◌∙◌, ◌∷◌, ◌≡◌}
use Rattle.std.proofs.{Common.{◌≤◌}, lemmas.List.{append-nil, take_more}}
use Rattle.std.{proofs.lemmas.List.{Folds.list_all_more, Sums.{prefix_len-drop_yes, prefix_len-le-length}}, specs.List.after_first}
use Rattle.std.specs.{List.{before_first, list_all, list_any, position_or_len, prefix_len}, Prelude.{None, Option, Some, min, not}}
use Rattle.std.specs.Prelude.{pos, ℤ, ◌&&◌, ◌||◌}
use Rattle.mpslp_decimal.proofs.{CutLemmas.{AreDigits, Each, Each-append, digits_sum-append, one_more}}
use Rattle.mpslp_decimal.proofs.{NumberTextLemmas.{are-digits, no_mark-digits, no_point-digits}, SpellsLemmas.{digits_sum-small, pow-next}}
use Rattle.mpslp_decimal.proofs.StripLemmas.{zeros-below}
use Rattle.mpslp_decimal.specs.Literal.{are_digits, digits_sum, exponent_part, is_digit, is_exponent_mark, is_literal, is_minus, is_point}
use Rattle.mpslp_decimal.specs.Literal.{unsigned_part, without_sign}
use Rattle.mpslp_decimal.specs.Scan.{IsScanOf, IsSignificandOf, IsStripped, after_digits, after_fraction}
use Rattle.mpslp_decimal.specs.Scan.{after_mantissa, after_point, capped_exponent, digits_front, exponent_after, exponent_of}
use Rattle.mpslp_decimal.specs.{Scan.{fraction_front, mantissa_front, zeros_of}, declared.literal.{Scan.Scan, Significand.Significand}}
use Rattle.mpslp_decimal.specs.declared.literal.Significand.TheVariants.{Short}

-- ---- cuts after a prefix without a cut

position-more : (p : ℕ → Bool) (front rest : List ℕ) → Each (λ b. p b ≡ false) front
    → position_or_len p (front ++ rest) ≡ length front + position_or_len p rest
position-more p [] rest h = grind arith
position-more p (b ∷ bs) rest h = grind (arith, position-more p bs rest h.1)

take-more : (front rest : List ℕ) (k : ℕ) → take (length front + k) (front ++ rest) ≡ front ++ take k rest
take-more [] rest k = grind arith
take-more (b ∷ bs) rest k = ap (λ n. take n (b ∷ bs ++ rest)) (suc_plus _ k) ∙ ap (λ x. b ∷ x) (take-more bs rest k)
  where
    suc_plus : (n k : ℕ) → suc n + k ≡ suc (n + k)
    suc_plus n k = omega arith

drop-more : (front rest : List ℕ) (k : ℕ) → drop (length front + k) (front ++ rest) ≡ drop k rest
drop-more [] rest k = grind arith
drop-more (b ∷ bs) rest k = ap (λ n. drop n (b ∷ bs ++ rest)) (suc_plus _ k) ∙ drop-more bs rest k
  where
    suc_plus : (n k : ℕ) → suc n + k ≡ suc (n + k)
    suc_plus n k = omega arith

pub before-more : (p : ℕ → Bool) (front rest : List ℕ) → Each (λ b. p b ≡ false) front
    → before_first p (front ++ rest) ≡ front ++ before_first p rest
before-more = grind (arith, position-more, take-more)

pub after-more : (p : ℕ → Bool) (front rest : List ℕ) → Each (λ b. p b ≡ false) front →
    after_first p (front ++ rest) ≡ after_first p rest
after-more = grind (arith, position-more, drop-more)

pub any-more : (p : ℕ → Bool) (front rest : List ℕ) → Each (λ b. p b ≡ false) front → list_any p (front ++ rest) ≡ list_any p rest
any-more p [] rest h = refl
any-more p (b ∷ bs) rest h = rw (h.0, any-more p bs rest h.1) refl

-- ---- a cut at the first byte

pub before-here : (p : ℕ → Bool) (x : ℕ) (xs : List ℕ) → p x ≡ true → before_first p (x ∷ xs) ≡ []
before-here p x xs h = rw h refl

pub after-here : (p : ℕ → Bool) (x : ℕ) (xs : List ℕ) → p x ≡ true → after_first p (x ∷ xs) ≡ xs
after-here p x xs h = rw h (grind arith)

pub any-here : (p : ℕ → Bool) (x : ℕ) (xs : List ℕ) → p x ≡ true → list_any p (x ∷ xs) ≡ true
any-here p x xs h = rw h refl

pub before-past : (p : ℕ → Bool) (x : ℕ) (xs : List ℕ) → p x ≡ false → before_first p (x ∷ xs) ≡ x ∷ before_first p xs
before-past p x xs h = before-more p (x ∷ []) xs (h, tt)

pub after-past : (p : ℕ → Bool) (x : ℕ) (xs : List ℕ) → p x ≡ false → after_first p (x ∷ xs) ≡ after_first p xs
after-past p x xs h = after-more p (x ∷ []) xs (h, tt)

pub any-past : (p : ℕ → Bool) (x : ℕ) (xs : List ℕ) → p x ≡ false → list_any p (x ∷ xs) ≡ list_any p xs
any-past p x xs h = any-more p (x ∷ []) xs (h, tt)

-- ---- the digits at the start of a text

abbrev Stops : List ℕ → Type 0
Stops [] = Unit {0}
Stops (x ∷ xs) = is_digit x ≡ false

record Front (text digits rest : List ℕ) : Type 0 where
  whole : text ≡ digits ++ rest
  digits_only : AreDigits digits
  stops : Stops rest

front-of : (text : List ℕ) → Front text (digits_front text) (after_digits text)
front-of [] = record { whole = refl; digits_only = tt; stops = tt }
front-of (x ∷ xs) = by _ refl (front-of xs)
  where
    taken : is_digit x ≡ true → digits_front (x ∷ xs) ≡ x ∷ digits_front xs
    taken e = rw (e, one_more (prefix_len is_digit xs)) refl

    left : is_digit x ≡ true → after_digits (x ∷ xs) ≡ after_digits xs
    left e = rw (e, one_more (prefix_len is_digit xs)) refl

    by : (b : Bool) → is_digit x ≡ b → Front xs (digits_front xs) (after_digits xs)
        → Front (x ∷ xs) (digits_front (x ∷ xs)) (after_digits (x ∷ xs))
    by true e f = record {
      whole = ap (λ t. x ∷ t) f.whole ∙ (λ i. sym (taken e) i ++ sym (left e) i);
      digits_only = subst AreDigits (sym (taken e)) (e, f.digits_only);
      stops = subst Stops (sym (left e)) f.stops;
    }
    by false e f = record {
      whole = rw e refl;
      digits_only = rw e tt;
      stops = rw e e;
    }

pub digits-whole : (text : List ℕ) → text ≡ digits_front text ++ after_digits text
digits-whole text = (front-of text).whole

-- ---- the sign is separate

unsigned-is : (text : List ℕ) → unsigned_part text ≡ before_first is_exponent_mark (without_sign text)
unsigned-is = grind arith

exponent-is : (text : List ℕ) → exponent_part text ≡ after_first is_exponent_mark (without_sign text)
exponent-is = grind arith

-- ---- the parts of a text without its sign

abbrev before_exponent : List ℕ → List ℕ
before_exponent text = before_first is_exponent_mark text

abbrev whole_part : List ℕ → List ℕ
whole_part text = before_first is_point (before_exponent text)

abbrev fraction_part : List ℕ → List ℕ
fraction_part text = after_first is_point (before_exponent text)

abbrev mantissa_part : List ℕ → List ℕ
mantissa_part text = whole_part text ++ fraction_part text

abbrev after_mark : List ℕ → List ℕ
after_mark text = after_first is_exponent_mark text

abbrev is_marked : List ℕ → Bool
is_marked text = list_any is_exponent_mark text

abbrev has_good_exponent : List ℕ → Bool
has_good_exponent text = not (is_marked text) || are_digits (without_sign (after_mark text))

-- after digits
whole-after : (digits rest : List ℕ) → AreDigits digits → whole_part (digits ++ rest) ≡ digits ++ whole_part rest
whole-after = grind (arith, before-more, no_mark-digits, no_point-digits)

fraction-after : (digits rest : List ℕ) → AreDigits digits → fraction_part (digits ++ rest) ≡ fraction_part rest
fraction-after = grind (arith, before-more, no_mark-digits, after-more, no_point-digits)

-- what the parts of a text are
record Parts (text whole fraction exponent : List ℕ) (marked : Bool) : Type 0 where
  whole_is : whole_part text ≡ whole
  fraction_is : fraction_part text ≡ fraction
  exponent_is : after_mark text ≡ exponent
  marked_is : is_marked text ≡ marked

parts-after : (digits rest whole fraction exponent : List ℕ) (marked : Bool) → AreDigits digits →
    Parts rest whole fraction exponent marked → Parts (digits ++ rest) (digits ++ whole) fraction exponent marked
parts-after = grind (arith, whole-after, fraction-after, after-more, no_mark-digits, any-more)

-- a point, and what follows it before the exponent part
parts-pointed : (x : ℕ) (xs exponent : List ℕ) (marked : Bool) → is_point x ≡ true → after_mark xs ≡ exponent →
    is_marked xs ≡ marked → Parts (x ∷ xs) [] (before_exponent xs) exponent marked
parts-pointed = grind arith

-- any other byte stays in the mantissa
whole-other : (x : ℕ) (xs : List ℕ) → is_exponent_mark x ≡ false → is_point x ≡ false → whole_part (x ∷ xs) ≡ x ∷ whole_part xs
whole-other = grind arith

-- ---- a literal, part by part

abbrev is_number : List ℕ → Bool
is_number text = are_digits (mantissa_part text) && has_good_exponent text

is_literal-is : (text : List ℕ) → is_literal text ≡ is_number (without_sign text)
is_literal-is = grind (arith, unsigned-is, exponent-is)

-- The text without its sign is a number with this exponent, or not a number.
abbrev Says : List ℕ → Option ℤ → Type 0
Says text (Some exponent) =
    (mantissa_part text ≡ mantissa_front text) × (fraction_part text ≡ fraction_front text)
    × (has_good_exponent text ≡ true) × (exponent ≡ capped_exponent (after_mark text))
Says text None = is_number text ≡ false

no_digits : (front back : List ℕ) (x : ℕ) → is_digit x ≡ false → list_all is_digit (front ++ x ∷ back) ≡ false
no_digits [] back x h = rw h refl
no_digits (b ∷ bs) back x h = rw (no_digits bs back x h) (grind arith)

no_number : (text front back : List ℕ) (x : ℕ) → is_digit x ≡ false → mantissa_part text ≡ front ++ x ∷ back →
    is_number text ≡ false
no_number = grind (arith, no_digits)

-- the digits are read, and what follows them is an exponent part or not
says-parts : (text whole fraction exponent : List ℕ) → Parts text whole fraction exponent true →
    whole ++ fraction ≡ mantissa_front text → fraction ≡ fraction_front text → Says text (exponent_of exponent)
says-parts = grind arith

says-plain : (text whole fraction : List ℕ) → Parts text whole fraction [] false → whole ++ fraction ≡ mantissa_front text
    → fraction ≡ fraction_front text → Says text (Some (pos 0))
says-plain = grind arith

-- the whole text from its first digits and what follows them
record Cut (text digits rest : List ℕ) : Type 0 where
  whole : text ≡ digits ++ rest
  digits_only : AreDigits digits
  front : digits_front text ≡ digits
  after : after_digits text ≡ rest

cut-of : (text rest : List ℕ) → after_digits text ≡ rest → Cut text (digits_front text) rest
cut-of text rest e =
    let f = front-of text in
    record { whole = f.whole ∙ ap (λ r. digits_front text ++ r) e; digits_only = f.digits_only; front = refl; after = e }

parts-cut : (text digits rest whole fraction exponent : List ℕ) (marked : Bool) → Cut text digits rest
    → Parts rest whole fraction exponent marked → Parts text (digits ++ whole) fraction exponent marked
parts-cut text digits rest whole fraction exponent marked c p =
    subst (λ t. Parts t (digits ++ whole) fraction exponent marked) (sym c.whole)
    (parts-after digits rest whole fraction exponent marked c.digits_only p)

no_point-front : (text : List ℕ) (x : ℕ) (xs : List ℕ) → after_digits text ≡ x ∷ xs → is_point x ≡ false →
    fraction_front text ≡ []
no_point-front = grind arith

point-front : (text : List ℕ) (x : ℕ) (xs : List ℕ) → after_digits text ≡ x ∷ xs → is_point x ≡ true →
    fraction_front text ≡ digits_front xs
point-front = grind arith

-- after a point: the digits of the fraction, and what follows them
pointed : (text : List ℕ) (x : ℕ) (xs rest : List ℕ) → after_digits text ≡ x ∷ xs → is_point x ≡ true → after_digits xs ≡ rest
    → Says text (exponent_after rest)
pointed text x xs [] e p f =
    let c = cut-of text (x ∷ xs) e in
    let d = cut-of xs [] f in
    let inner = ap before_exponent d.whole ∙ before-more is_exponent_mark _ [] (no_mark-digits (digits_front xs) d.digits_only)
    ∙ append-nil _ in
    let following = parts-after (digits_front xs) [] [] [] [] false d.digits_only (grind arith) in
    let after = ap after_mark d.whole ∙ following.exponent_is in
    let marked = ap is_marked d.whole ∙ following.marked_is in
    let parts = parts-cut text _ (x ∷ xs) [] _ [] false c (parts-pointed x xs [] false p after marked) in
    let front = point-front text x xs e p in
    says-plain text _ _ parts
    ((λ i. append-nil (digits_front text) i ++ (inner ∙ sym front) i)) (inner ∙ sym front)
pointed text x xs (y ∷ ys) e p f = by _ (is_digit y) refl refl
  where
    stop : is_digit y ≡ false
    stop = let s = (front-of xs).stops in subst Stops f s

    by : (m d : Bool) → is_exponent_mark y ≡ m → is_digit y ≡ d → Says text (cond m (exponent_of ys) None)
    by true d m is_d =
        let c = cut-of text (x ∷ xs) e in
        let k = cut-of xs (y ∷ ys) f in
        let none = before-here is_exponent_mark y ys m in
        let inner = ap before_exponent k.whole ∙ before-more is_exponent_mark _ (y ∷ ys)
        (no_mark-digits (digits_front xs) k.digits_only) ∙ ap (λ (t : List ℕ). digits_front xs ++ t) none
        ∙ append-nil (digits_front xs) in
        let following = parts-after (digits_front xs) (y ∷ ys) [] [] ys true k.digits_only (grind (arith, m)) in
        let after = ap after_mark k.whole ∙ following.exponent_is in
        let marked = ap is_marked k.whole ∙ following.marked_is in
        let parts = parts-cut text _ (x ∷ xs) [] _ ys true c (parts-pointed x xs ys true p after marked) in
        let front = point-front text x xs e p in
        says-parts text _ _ ys parts
        ((λ i. append-nil (digits_front text) i ++ (inner ∙ sym front) i)) (inner ∙ sym front)
    by false d m is_d =
        let c = cut-of text (x ∷ xs) e in
        let k = cut-of xs (y ∷ ys) f in
        let inner = ap before_exponent k.whole ∙ before-more is_exponent_mark _ (y ∷ ys)
        (no_mark-digits (digits_front xs) k.digits_only) ∙ ap (λ (t : List ℕ). digits_front xs ++ t)
        (before-past is_exponent_mark y ys m) in
        let parts = parts-cut text _ (x ∷ xs) [] _ (after_mark xs) (is_marked xs) c
        (parts-pointed x xs (after_mark xs) (is_marked xs) p refl refl) in
        no_number text _ _ y stop
        ((λ i. parts.whole_is i ++ (parts.fraction_is ∙ inner) i) ∙ sym (append_assoc _ (digits_front xs) _))

unpointed : (text : List ℕ) (x : ℕ) (xs : List ℕ) → after_digits text ≡ x ∷ xs → is_point x ≡ false →
    Says text (exponent_after (x ∷ xs))
unpointed text x xs e p = by _ refl
  where
    stop : is_digit x ≡ false
    stop = let s = (front-of text).stops in subst Stops e s

    by : (m : Bool) → is_exponent_mark x ≡ m → Says text (cond m (exponent_of xs) None)
    by true m =
        let c = cut-of text (x ∷ xs) e in
        let front = no_point-front text x xs e p in
        says-parts text _ [] xs (parts-cut text _ (x ∷ xs) [] [] xs true c (grind (arith, m)))
        (λ i. append-nil (digits_front text) i ++ sym front i) (sym front)
    by false m = grind (arith, no_number, whole-after, whole-other, append_assoc, cut-of text (x ∷ xs) e, stop, m, p)

-- the result for a text without its sign, read from the start
pub says : (text : List ℕ) → Says text (exponent_after (after_mantissa text))
says text = by _ refl
  where
    point : (b : Bool) (x : ℕ) (xs : List ℕ) → after_digits text ≡ x ∷ xs → is_point x ≡ b
        → Says text (exponent_after (cond b (after_digits xs) (x ∷ xs)))
    point = grind (arith, pointed, unpointed)

    by : (rest : List ℕ) → after_digits text ≡ rest → Says text (exponent_after (after_fraction rest))
    by [] e =
        let none = ap (λ r. digits_front (after_point r)) e in
        says-plain text _ [] (parts-cut text _ [] [] [] [] false (cut-of text [] e) (grind arith))
        (λ i. append-nil (digits_front text) i ++ sym none i) (sym none)
    by (x ∷ xs) e = point _ x xs e refl

-- ---- the result of a scan

-- a text without digits before its exponent part is not a literal
pub literal-no_digits : (text unsigned : List ℕ) (count : ℕ) → unsigned ≡ without_sign text →
    count ≡ length (mantissa_front unsigned) → count ≡ 0 → is_literal text ≡ false
literal-no_digits text unsigned count u c none =
    is_literal-is text ∙ ap is_number (sym u) ∙ grind (arith, says unsigned, (sym c ∙ none))

-- what follows the mantissa is not an exponent part
pub literal-no_exponent : (text unsigned rest : List ℕ) → unsigned ≡ without_sign text → rest ≡ after_mantissa unsigned
    → exponent_after rest ≡ None → is_literal text ≡ false
literal-no_exponent = grind (arith, is_literal-is, says)

front_digits : (text : List ℕ) → AreDigits (mantissa_front text)
front_digits text =
    Each-append (λ b. is_digit b ≡ true) (digits_front text) (fraction_front text) (front-of text).digits_only
    (front-of (after_point (after_digits text))).digits_only

pub scanned : (scan : Scan) (text unsigned rest : List ℕ) (exponent : ℤ) (count : ℕ) → unsigned ≡ without_sign text
    → rest ≡ after_mantissa unsigned → exponent_after rest ≡ Some exponent
    → IsSignificandOf scan.significand (digits_sum (mantissa_front unsigned)) →
    count ≡ length (mantissa_front unsigned) → 0 < count → scan.places ≡ length (fraction_front unsigned)
    → scan.exponent ≡ exponent → scan.is_negative ≡ is_minus text → count ≤ length unsigned →
    zeros_of scan.significand ≤ length unsigned → scan.places ≤ length unsigned → IsScanOf scan text
scanned = grind (arith, says, unsigned-is, exponent-is, are-digits, front_digits, is_literal-is)

-- ---- The significand of digits before and after a point.

-- before the first digit
pub no-digits : IsSignificandOf (Short 0 0) 0
no-digits = (record { value = refl; ends = λ h. absurd (omega arith) }, lit< tt)

-- the digits before the point, read first
pub first-digits : (text : List ℕ) (whole : Significand) → ((n : ℕ) → IsSignificandOf (Short 0 0) n
    → IsSignificandOf whole (n * 10 ^ length (digits_front text) + digits_sum (digits_front text)))
    → IsSignificandOf whole (digits_sum (digits_front text))
first-digits text whole h = subst (IsSignificandOf whole) (omega arith) (h 0 no-digits)

-- those after it, read after them
pub all-digits : (text fraction : List ℕ) (whole result : Significand)
    → ((n : ℕ) → IsSignificandOf (Short 0 0) n
    → IsSignificandOf whole (n * 10 ^ length (digits_front text) + digits_sum (digits_front text)))
    → ((n : ℕ) → IsSignificandOf whole n
    → IsSignificandOf result (n * 10 ^ length (digits_front fraction) + digits_sum (digits_front fraction)))
    → fraction_front text ≡ digits_front fraction → IsSignificandOf result (digits_sum (mantissa_front text))
all-digits = grind (arith, digits_sum-append, first-digits)

-- if there is no point
pub only-digits : (text : List ℕ) (whole : Significand) → fraction_front text ≡ []
    → ((n : ℕ) → IsSignificandOf (Short 0 0) n → IsSignificandOf whole
    (n * 10 ^ length (digits_front text) + digits_sum (digits_front text))) →
    IsSignificandOf whole (digits_sum (mantissa_front text))
only-digits = grind (arith, append-nil, first-digits)

-- what follows the point, as the pattern of a slice cuts it
pub fraction-cut : (text rest : List ℕ) → rest ≡ after_digits text → 1 ≤ length rest → get_or rest 0 0 ≡ 46
    → fraction_front text ≡ digits_front (take (length rest - 1) (drop 1 rest))
fraction-cut text rest e some point = ap (λ r. digits_front (after_point r)) (sym e) ∙ following rest some point
  where
    all : (xs : List ℕ) → take (length xs) xs ≡ xs
    all [] = refl
    all (x ∷ xs) = ap (λ t. x ∷ t) (all xs)

    none : (xs : List ℕ) → drop 0 xs ≡ xs
    none = grind arith

    less_one : (n : ℕ) → suc n - 1 ≡ n
    less_one n = omega arith

    following : (r : List ℕ) → 1 ≤ length r → get_or r 0 0 ≡ 46
        → digits_front (after_point r) ≡ digits_front (take (length r - 1) (drop 1 r))
    following = grind (arith, less_one, none, all)

-- no more zeros than bytes
pub zeros-front : (text : List ℕ) (count : ℕ) → count ≤ 0 + prefix_len is_digit text → count ≤ length text
zeros-front text count h = omega (arith, prefix_len-le-length is_digit text)

pub zeros-after : (text rest : List ℕ) (whole count : ℕ) → rest ≡ after_digits text → 1 ≤ length rest →
    whole ≤ 0 + prefix_len is_digit text → count ≤ whole + prefix_len is_digit (take (length rest - 1) (drop 1 rest)) →
    count ≤ length text
zeros-after text rest whole count e some first more = search (rules, length-drop, prefix_len-le-length, arith)

-- ---- The step of a loop over digits.

-- the digits before the index and the one at it
pub digits_sum-more : (xs : List ℕ) (i : ℕ) → i < length xs
    → digits_sum (take (i + 1) xs) ≡ digits_sum (take i xs) * 10 + (get_or xs i 0 - 48)
digits_sum-more xs i h =
    ap digits_sum (take_more xs i 0 h) ∙ digits_sum-append (take i xs) _ ∙ omega arith

pub count-more : (xs : List ℕ) (i : ℕ) → i < length xs → is_digit (get_or xs i 0) ≡ true
    → i + prefix_len is_digit (drop i xs) ≡ prefix_len is_digit xs →
    i + 1 + prefix_len is_digit (drop (i + 1) xs) ≡ prefix_len is_digit xs
count-more = grind (arith, prefix_len-drop_yes)

regroup : (n p s d : ℕ) → (n * p + s) * 10 + d ≡ n * (p * 10) + (s * 10 + d)
regroup = grind arith

pub value-more : (xs : List ℕ) (i n : ℕ) → i < length xs
    → (n * 10 ^ i + digits_sum (take i xs)) * 10 + (get_or xs i 0 - 48) ≡ n * 10 ^ (i + 1) + digits_sum (take (i + 1) xs)
value-more xs i n h = search (rules, regroup, pow-next, digits_sum-more)

pub all-more : (xs : List ℕ) (i : ℕ) → i < length xs → list_all is_digit (take i xs) ≡ true → is_digit (get_or xs i 0) ≡ true
    → list_all is_digit (take (i + 1) xs) ≡ true
all-more xs i h before here = list_all_more is_digit xs i 0 h ∙ (λ j. before j && here j)

pub capped-digit : (xs : List ℕ) (i size d result cap : ℕ) → i < length xs → size ≡ min (digits_sum (take i xs)) cap
    → d ≡ get_or xs i 0 - 48 → result ≡ min (size * 10 + d) cap → result ≡ min (digits_sum (take (i + 1) xs)) cap
capped-digit = grind (arith, digits_sum-more)

-- ---- The significand of a mantissa that was read as one number.

none : (p s : ℕ) → 0 * p + s ≡ s
none p s = omega arith

-- the number of the digits before the point and of those after it
pub all-number : (text fraction : List ℕ) (whole number : ℕ) →
    whole ≡ 0 * 10 ^ length (digits_front text) + digits_sum (digits_front text) →
    number ≡ whole * 10 ^ length (digits_front fraction) + digits_sum (digits_front fraction) →
    fraction_front text ≡ digits_front fraction → number ≡ digits_sum (mantissa_front text)
all-number = grind (arith, none, digits_sum-append)

-- if there is no point
pub only-number : (text : List ℕ) (whole : ℕ) → whole ≡ 0 * 10 ^ length (digits_front text) + digits_sum (digits_front text)
    → fraction_front text ≡ [] → whole ≡ digits_sum (mantissa_front text)
only-number = grind (arith, none, append-nil)

digits-within : (text : List ℕ) → length (digits_front text) ≤ length text
digits-within text = omega (arith, length-take (prefix_len is_digit text) text)

point-within : (text : List ℕ) → length (after_point text) ≤ length text
point-within = grind arith

pub within : (text : List ℕ) → length (mantissa_front text) ≤ length text
within text =
    let whole = ap length (digits-whole text) ∙ length-append (digits_front text) _ in
    omega (
      arith,
      whole,
      length-append (digits_front text) (fraction_front text),
      point-within (after_digits text),
      digits-within
          (after_point (after_digits text)),
    )

-- no more zeros than bytes
pub short-zeros : (text : List ℕ) (n m z : ℕ) → n ≡ digits_sum (mantissa_front text) → IsStripped n m z → 0 < n → z ≤ length text
short-zeros text n m z value s some =
    let small : n < 10 ^ length (mantissa_front text) =
    subst (λ k. k < 10 ^ length (mantissa_front text)) (sym value) (digits_sum-small _ (front_digits text)) in
    omega (arith, zeros-below n m z _ s.value (omega (arith, s.ends some)) small, within text)
