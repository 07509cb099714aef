-- A number is a text that a small state machine accepts.
use Rattle.std.proofs.Common.{Bool, List, [], ap, arith, cond, drop, false, length, refl, subst, suc, take, true, zero, ℕ, ◌++◌, ◌+◌, ◌<◌}
use Rattle.std.{proofs.Common.{◌∙◌, ◌∷◌, ◌≡◌, ◌≤◌}, specs.{List.{after_first, before_first, list_all, list_any, prefix_len}, Prelude.None}}
use Rattle.std.specs.Prelude.{Option, Some, not, unwrap_or, ◌&&◌, ◌||◌}
use Rattle.mpslp_decimal.{proofs.GrammarLemmas.{after-here, after-past, any-here, any-past, before-past}, specs.Literal.are_digits}
use Rattle.mpslp_decimal.specs.Literal.{is_digit, is_exponent_mark, is_literal, is_point, is_sign, without_sign}
use Rattle.mpslp_lp_tokens.specs.{Scan.{IsLongestFront, exponent_size, number_size, number_size_after, sign_size}, Token.is_number}

-- ---- the machine

-- what was read: nothing, digits, only a point, a point and digits, the mark of the exponent, its sign, its digits; not a
-- number
pub data Stage : Type 0 where
  Begin : Stage
  Whole : Stage
  Point : Stage
  Fraction : Stage
  Mark : Stage
  Sign : Stage
  Exponent : Stage
  Dead : Stage

pub data Class : Type 0 where
  IsDigit : Class
  IsPoint : Class
  IsMark : Class
  IsSign : Class
  IsOther : Class

abbrev pub class_of : ℕ → Class
class_of b = cond (is_digit b) IsDigit
    (cond (is_point b) IsPoint (cond (is_exponent_mark b) IsMark (cond (is_sign b) IsSign IsOther)))

abbrev pub next : Stage → Class → Stage
next Begin IsDigit = Whole
next Begin IsPoint = Point
next Whole IsDigit = Whole
next Whole IsPoint = Fraction
next Whole IsMark = Mark
next Point IsDigit = Fraction
next Fraction IsDigit = Fraction
next Fraction IsMark = Mark
next Mark IsDigit = Exponent
next Mark IsSign = Sign
next Sign IsDigit = Exponent
next Exponent IsDigit = Exponent
next stage class = Dead

abbrev pub is_end : Stage → Bool
is_end Whole = true
is_end Fraction = true
is_end Exponent = true
is_end stage = false

abbrev pub accepts : Stage → List ℕ → Bool
accepts stage [] = is_end stage
accepts stage (b ∷ bs) = accepts (next stage (class_of b)) bs

-- ---- what is known of a byte of a class

abbrev pub Facts : ℕ → Class → Type 0
Facts b IsDigit = (is_digit b ≡ true) × (is_point b ≡ false) × (is_exponent_mark b ≡ false) × (is_sign b ≡ false)
Facts b IsPoint = (is_digit b ≡ false) × (is_point b ≡ true) × (is_exponent_mark b ≡ false) × (is_sign b ≡ false)
Facts b IsMark = (is_digit b ≡ false) × (is_point b ≡ false) × (is_exponent_mark b ≡ true) × (is_sign b ≡ false)
Facts b IsSign = (is_digit b ≡ false) × (is_point b ≡ false) × (is_exponent_mark b ≡ false) × (is_sign b ≡ true)
Facts b IsOther = (is_digit b ≡ false) × (is_point b ≡ false) × (is_exponent_mark b ≡ false) × (is_sign b ≡ false)

pub facts : (b : ℕ) → Facts b (class_of b)
facts = grind arith

-- ---- what the stages accept

pub dead : (t : List ℕ) → accepts Dead t ≡ false
dead [] = refl
dead (b ∷ bs) = dead bs

exponent-takes : (t : List ℕ) → accepts Exponent t ≡ list_all is_digit t
exponent-takes [] = refl
exponent-takes (b ∷ bs) = grind (arith, facts, dead, exponent-takes bs)

-- digits, beginning with this one
digits-first : (b : ℕ) (bs : List ℕ) → are_digits (b ∷ bs) ≡ list_all is_digit (b ∷ bs)
digits-first = grind arith

sign-takes : (t : List ℕ) → accepts Sign t ≡ are_digits t
sign-takes [] = refl
sign-takes (b ∷ bs) = grind (arith, facts, digits-first, dead, exponent-takes)

mark-takes : (t : List ℕ) → accepts Mark t ≡ are_digits (without_sign t)
mark-takes = grind (arith, facts, sign-takes, dead, exponent-takes)

-- ---- the parts of what is left

abbrev ahead : List ℕ → List ℕ
ahead t = before_first is_exponent_mark t

abbrev mantissa : List ℕ → List ℕ
mantissa t = before_first is_point (ahead t) ++ after_first is_point (ahead t)

abbrev exponent : List ℕ → Bool
exponent t = not (list_any is_exponent_mark t) || are_digits (without_sign (after_first is_exponent_mark t))

exponent-past : (b : ℕ) (bs : List ℕ) → is_exponent_mark b ≡ false → exponent (b ∷ bs) ≡ exponent bs
exponent-past b bs h = λ i. not (any-past is_exponent_mark b bs h i) || are_digits
    (without_sign (after-past is_exponent_mark b bs h i))

exponent-here : (b : ℕ) (bs : List ℕ) → is_exponent_mark b ≡ true → exponent (b ∷ bs) ≡ are_digits (without_sign bs)
exponent-here b bs h = λ i. not (any-here is_exponent_mark b bs h i) || are_digits
    (without_sign (after-here is_exponent_mark b bs h i))

ahead-past : (b : ℕ) (bs : List ℕ) → is_exponent_mark b ≡ false → ahead (b ∷ bs) ≡ b ∷ ahead bs
ahead-past b bs h = before-past _ b bs h

mantissa-past : (b : ℕ) (bs : List ℕ) → is_exponent_mark b ≡ false → is_point b ≡ false → mantissa (b ∷ bs) ≡ b ∷ mantissa bs
mantissa-past = grind (arith, ahead-past, before-past, after-past)

mantissa-point : (b : ℕ) (bs : List ℕ) → is_exponent_mark b ≡ false → is_point b ≡ true → mantissa (b ∷ bs) ≡ ahead bs
mantissa-point = grind arith

mantissa-here : (b : ℕ) (bs : List ℕ) → is_exponent_mark b ≡ true → mantissa (b ∷ bs) ≡ []
mantissa-here = grind arith

abbrev in_fraction : List ℕ → Bool
in_fraction t = list_all is_digit (ahead t) && exponent t

fraction-takes : (t : List ℕ) → accepts Fraction t ≡ in_fraction t
fraction-takes [] = refl
fraction-takes (b ∷ bs) = by _ (facts b) (fraction-takes bs)
  where
    by : (class : Class) → Facts b class → accepts Fraction bs ≡ in_fraction bs →
        accepts (next Fraction class) bs ≡ in_fraction (b ∷ bs)
    by = grind (arith, mark-takes, exponent-here, dead, ahead-past, exponent-past)

abbrev in_whole : List ℕ → Bool
in_whole t = list_all is_digit (mantissa t) && exponent t

whole-takes : (t : List ℕ) → accepts Whole t ≡ in_whole t
whole-takes [] = refl
whole-takes (b ∷ bs) = by _ (facts b) (whole-takes bs)
  where
    by : (class : Class) → Facts b class → accepts Whole bs ≡ in_whole bs → accepts (next Whole class) bs ≡ in_whole (b ∷ bs)
    by = grind (
      arith,
      mark-takes,
      mantissa-here,
      exponent-here,
      fraction-takes,
      mantissa-point,
      exponent-past,
      dead,
      mantissa-past,
    )

abbrev in_point : List ℕ → Bool
in_point t = are_digits (ahead t) && exponent t

point-takes : (t : List ℕ) → accepts Point t ≡ in_point t
point-takes [] = refl
point-takes (b ∷ bs) = by _ (facts b)
  where
    by : (class : Class) → Facts b class → accepts (next Point class) bs ≡ in_point (b ∷ bs)
    by = grind (arith, dead, exponent-here, fraction-takes, ahead-past, exponent-past, digits-first)

-- ---- a whole text

abbrev unsigned_literal : List ℕ → Bool
unsigned_literal t = are_digits (mantissa t) && exponent t

literal-is : (b : ℕ) (bs : List ℕ) → is_exponent_mark b ≡ false → is_sign b ≡ false →
    is_literal (b ∷ bs) ≡ unsigned_literal (b ∷ bs)
literal-is = grind arith

pub number-takes : (t : List ℕ) → is_number t ≡ accepts Begin t
number-takes [] = refl
number-takes (b ∷ bs) =
    grind (arith, facts, whole-takes, literal-is, mantissa-past, exponent-past, digits-first, point-takes, mantissa-point, dead)

-- ---- The number that the stages find is the longest.

-- ---- the longest prefix that a stage accepts

-- one byte more; without a byte, the empty prefix if the stage may end
abbrev longer : Option ℕ → Bool → Option ℕ
longer (Some n) ends = Some (suc n)
longer None ends = cond ends (Some 0) None

-- the length of that prefix; none if the stage does not even accept the empty one
abbrev reach : Stage → List ℕ → Option ℕ
reach stage [] = longer None (is_end stage)
reach stage (b ∷ bs) = longer (reach (next stage (class_of b)) bs) (is_end stage)

abbrev Reaches : Stage → List ℕ → Option ℕ → Type 0
Reaches stage t (Some n) = (n ≤ length t) × (accepts stage (take n t) ≡ true) × ((k : ℕ) → n < k → k ≤ length t
    → accepts stage (take k t) ≡ false)
Reaches stage t None = (k : ℕ) → k ≤ length t → accepts stage (take k t) ≡ false

-- if nothing more is accepted
reached_here : (stage : Stage) (t : List ℕ) → accepts stage [] ≡ is_end stage
    → ((k : ℕ) → 0 < k → k ≤ length t → accepts stage (take k t) ≡ false)
    → (ends : Bool) → is_end stage ≡ ends → Reaches stage t (longer None ends)
reached_here stage t empty none true e = grind arith
reached_here stage t empty none false e = by
  where
    by : (k : ℕ) → k ≤ length t → accepts stage (take k t) ≡ false
    by = grind arith

reached : (stage : Stage) (t : List ℕ) → Reaches stage t (reach stage t)
reached stage [] = grind arith
reached stage (b ∷ bs) = by _ (reached (next stage (class_of b)) bs)
  where
    by : (found : Option ℕ) → Reaches (next stage (class_of b)) bs found → Reaches stage (b ∷ bs) (longer found (is_end stage))
    by (Some n) r = (omega (arith, r.0), r.1, beyond)
      where
        beyond : (k : ℕ) → suc n < k → k ≤ length (b ∷ bs) → accepts stage (take k (b ∷ bs)) ≡ false
        beyond = grind arith
    by None r = reached_here stage (b ∷ bs) refl beyond _ refl
      where
        beyond : (k : ℕ) → 0 < k → k ≤ length (b ∷ bs) → accepts stage (take k (b ∷ bs)) ≡ false
        beyond = grind arith

dead-reach : (t : List ℕ) → reach Dead t ≡ None
dead-reach [] = refl
dead-reach (b ∷ bs) = grind (arith, dead-reach bs)

-- ---- digits and an exponent

exponent-reach : (t : List ℕ) → reach Exponent t ≡ Some (prefix_len is_digit t)
exponent-reach [] = refl
exponent-reach (b ∷ bs) = grind (arith, facts, dead-reach, exponent-reach bs)

-- this number of bytes and then digits, at least one
abbrev ended : ℕ → ℕ → Option ℕ
ended context zero = None
ended context (suc digits) = Some (context + suc digits)

sign-reach : (t : List ℕ) → reach Sign t ≡ ended 0 (prefix_len is_digit t)
sign-reach [] = refl
sign-reach (b ∷ bs) = grind (arith, facts, dead-reach, exponent-reach)

mark-reach : (t : List ℕ) → reach Mark t ≡ ended (sign_size t) (prefix_len is_digit (drop (sign_size t) t))
mark-reach = grind (arith, facts, dead-reach, exponent-reach, sign-reach)

-- digits, and the exponent that follows them
abbrev digits_size : List ℕ → ℕ
digits_size t = prefix_len is_digit t + exponent_size (drop (prefix_len is_digit t) t)

fraction-reach : (t : List ℕ) → reach Fraction t ≡ Some (digits_size t)
fraction-reach [] = refl
fraction-reach (b ∷ bs) = by _ (facts b) (fraction-reach bs)
  where
    by : (class : Class) → Facts b class → reach Fraction bs ≡ Some (digits_size bs)
        → longer (reach (next Fraction class) bs) true ≡ Some (digits_size (b ∷ bs))
    by IsDigit f h = let e : 1 + prefix_len is_digit bs ≡ suc (prefix_len is_digit bs) =
        omega arith in rw (h, f.0, e) (ap Some (omega arith))
    by _ f h = grind (arith, dead-reach, mark-reach)

-- what comes after this number of digits
abbrev following : ℕ → List ℕ → ℕ
following n [] = n
following n (b ∷ bs) = cond (is_point b) (n + 1 + digits_size bs) (n + exponent_size (b ∷ bs))

abbrev whole_size : List ℕ → ℕ
whole_size t = following (prefix_len is_digit t) (drop (prefix_len is_digit t) t)

whole-reach : (t : List ℕ) → reach Whole t ≡ Some (whole_size t)
whole-reach [] = refl
whole-reach (b ∷ bs) = by _ (facts b) (whole-reach bs)
  where
    by : (class : Class) → Facts b class → reach Whole bs ≡ Some (whole_size bs)
        → longer (reach (next Whole class) bs) true ≡ Some (whole_size (b ∷ bs))
    by IsDigit f h = let e : 1 + prefix_len is_digit bs ≡ suc (prefix_len is_digit bs) =
        omega arith in rw (h, f.0, e) (ap Some (grind arith))
    by _ f h = grind (arith, fraction-reach, mark-reach, dead-reach)

abbrev pointed : ℕ → List ℕ → Option ℕ
pointed zero rest = None
pointed (suc n) rest = Some (suc n + exponent_size rest)

point-reach : (t : List ℕ) → reach Point t ≡ pointed (prefix_len is_digit t) (drop (prefix_len is_digit t) t)
point-reach [] = refl
point-reach (b ∷ bs) = grind (arith, facts, dead-reach, fraction-reach)

-- ---- a whole text

size-after : (n : ℕ) (t : List ℕ) → suc (following n t) ≡ number_size_after (suc n) t
size-after = grind arith

begin-reach : (t : List ℕ) → unwrap_or (reach Begin t) 0 ≡ number_size t
begin-reach [] = refl
begin-reach (b ∷ bs) = grind (arith, facts, dead-reach, whole-reach, point-reach, size-after)

pub number-longest : (t : List ℕ) → IsLongestFront is_number t (number_size t)
number-longest t =
    let r = subst (IsLongestFront (accepts Begin) t) (begin-reach t) (grind (arith, reached Begin t)) in
    record {
      within = r.within;
      front = λ h. number-takes (take (number_size t) t) ∙ r.front h;
      longest = λ n h w. number-takes (take n t) ∙ r.longest n h w;
    }
