-- Printed names, numbers and signs as tokens: where each ends, and that it is the longest token at its position.
use Rattle.mpslp_lp_laws.proofs.Prelude
use Prelude.{◌≡◌, refl, ap, ◌∙◌, ℕ, zero, suc, ◌+◌, ◌-◌, ◌≤◌, List, [], ◌∷◌, ◌++◌, Bool, true, false, length, take, map, arith}
use Prelude.{length-append, Option, Some, None, is_blank, begins_comment, kind_of, Front, longest_within, token_at, Token}
use Prelude.{tokens_from, TokenKind, SeenToken, rules, ◌<◌, not, replicate, append_assoc, ◌^◌, ◌&&◌, ◌||◌, ◌==◌, ℤ, pos, negsuc}
use Prelude.{unsigned_abs, nat_lt, if◌then◌else◌, codes, list_all, list_any, first_so, second_so, decimal, nat_tests, eqb-true, ltb-true}
use Prelude.{Number, IsDecimal, is_negative, is_digit, is_literal, with_point, scaled_text, number_text, AreDigits, decimal-spells}
use Prelude.{zeros_are_digits, number-text, marker, same_bytes, is_letter, is_lp_byte, is_like_exponent, is_reserved, begins_a_number}
use Prelude.{is_lp_name, both_so, not_so, nor, begins_word, is_word, begins-no_number, before_first, after_first}
use Prelude.{is_sign, is_point, is_exponent_mark, without_sign, are_digits, unsigned_part, mantissa_digits, exponent_part}
use Prelude.{after-none, Each, Each-from_list_all, continues_word, is_number, operator_kind, int_le, flat_map, join_by, size_of, tokens}
use Prelude.{class_of, token_fault, Relation, Lexeme, PrintedLine, word, label, number, sign, sense, sign_bytes, sense_bytes, lexeme_text}
use Prelude.{line_text, sign_kind, sense_kind, tokens_in, line_tokens}
use Prelude.{minus_infinity, semi_continuous}
use Rattle.std.{proofs.Math.Seq.{take-append_seam, take-append-add}, specs.List.find}
use Rattle.mpslp_decimal.proofs.{CutLemmas.{Each-append, Each-weaker}, SpellsLemmas.spells-from_number}
use Rattle.mpslp_lp_tokens.specs.declared.tokens.TokenKind.TheVariants as kinds
use Rattle.mpslp_lp_tokens.specs.declared.words.WordClass.TheVariants as meanings
use Prelude.{longest_token}
use Prelude.{sym}
use Prelude.{subst}

-- ---- the longest token at a position, if the text of a token is there and no token continues past it

-- ---- the tokens of bytes, whatever their position

abbrev pub seen : List Token → List SeenToken
seen found = map (λ (token : Token). (token.kind, token.text)) found

-- these are the tokens of the bytes, from any position on
abbrev pub Reads : List ℕ → List SeenToken → Type 0
Reads bytes expected = (place : ℕ) → seen (tokens_from place zero bytes) ≡ expected

-- ---- the end of a token

-- no token begins with the text and continues with the byte
abbrev pub StopsAt : List ℕ → ℕ → Type 0
StopsAt text byte = (more : List ℕ) → kind_of (text ++ byte ∷ more) ≡ None

-- no token is longer than the text, if this follows it
abbrev pub Stops : List ℕ → List ℕ → Type 0
Stops text [] = Unit {0}
Stops text (byte ∷ rest) = StopsAt text byte

abbrev pub BeginsToken : List ℕ → Type 0
BeginsToken [] = ⊥
BeginsToken (byte ∷ _) = (begins_comment byte ≡ false) × (is_blank byte ≡ false)

-- the whole text is a token of this kind
pub record IsToken (kind : TokenKind) (text : List ℕ) : Type 0 where
  pub is : kind_of text ≡ Some kind
  pub begins : BeginsToken text

abbrev front_of : TokenKind → List ℕ → Front
front_of kind text = record { kind = kind; size = length text }

longest-here : (kind : TokenKind) (byte : ℕ) (bytes rest : List ℕ) → kind_of (byte ∷ bytes) ≡ Some kind
    → longest_within (length (byte ∷ bytes)) ((byte ∷ bytes) ++ rest) ≡ Some (front_of kind (byte ∷ bytes))
longest-here = grind (arith, take-append_seam)

longest-stops : (kind : TokenKind) (byte : ℕ) (bytes rest : List ℕ) (more n : ℕ)
    → kind_of (byte ∷ bytes) ≡ Some kind → Stops (byte ∷ bytes) rest → more ≤ length rest
    → n ≡ length (byte ∷ bytes) + more → longest_within n ((byte ∷ bytes) ++ rest) ≡ Some (front_of kind (byte ∷ bytes))
longest-stops kind byte bytes rest zero n h stops within e = let same : n ≡ length (byte ∷ bytes) = omega (arith, e) in
    ap (λ (size : ℕ). longest_within size ((byte ∷ bytes) ++ rest)) same ∙ longest-here kind byte bytes rest h
longest-stops kind byte bytes [] (suc more) n h stops within e = absurd (omega (arith, within))
longest-stops kind byte bytes (next ∷ rest) (suc more) zero h stops within e = absurd (omega (arith, e))
longest-stops kind byte bytes (next ∷ rest) (suc more) (suc n) h stops within e = grind (
  arith,
  take-append-add (byte ∷ bytes) (next ∷ rest)
      (suc more),
  longest-stops kind byte bytes (next ∷ rest) more n h stops (omega (arith, within)) (omega (arith, e)),
)

token-stops : (kind : TokenKind) (byte : ℕ) (bytes rest : List ℕ) → kind_of (byte ∷ bytes) ≡ Some kind → Stops (byte ∷ bytes) rest
    → token_at ((byte ∷ bytes) ++ rest) ≡ front_of kind (byte ∷ bytes)
token-stops kind byte bytes rest h stops =
    let all : longest_token ((byte ∷ bytes) ++ rest) ≡ Some (front_of kind (byte ∷ bytes)) =
    ap (λ (n : ℕ). longest_within n ((byte ∷ bytes) ++ rest)) (length-append (byte ∷ bytes) rest)
    ∙ longest-stops kind byte bytes rest (length rest) (length (byte ∷ bytes) + length rest) h stops (omega arith) refl in
    ap (λ (o : Option Front). elim o as (λ _. Front)
    [ Some front ↦ front | None ↦ record { kind = kinds.Unknown; size = 1 } ]) all

-- ---- reading further

pub reads-nil : Reads [] []
reads-nil _ = refl

pub reads-blank : (rest : List ℕ) (expected : List SeenToken) → Reads rest expected → Reads (32 ∷ rest) expected
reads-blank _ _ h place = h (place + 1)

taken-read : (bytes rest : List ℕ) (expected : List SeenToken) (place : ℕ)
    → Reads rest expected → seen (tokens_from place (length bytes) (bytes ++ rest)) ≡ expected
taken-read [] _ _ place h = h place
taken-read (byte ∷ bytes) rest expected place h = taken-read bytes rest expected (place + 1) h

-- a token is read, and then what follows it
pub reads-token : (kind : TokenKind) (text rest : List ℕ) (expected : List SeenToken)
    → IsToken kind text → Stops text rest → Reads rest expected → Reads (text ++ rest) ((kind, text) ∷ expected)
reads-token _ [] _ _ token _ h _ = absurd token.begins
reads-token kind (byte ∷ bytes) rest expected token stops h place = grind (
  arith,
  token-stops kind byte bytes rest token.is stops,
  take-append_seam (byte ∷ bytes) rest,
  taken-read bytes rest expected (place + 1) h,
)

-- ---- the texts of names and of numbers are tokens

-- ---- words

-- a byte of a word is not a space or tab and does not begin a comment
symbol-solid : (symbols : List ℕ) (b : ℕ) → list_all (λ s. not (s == 92 || (s == 32 || s == 9))) symbols ≡ true
    → list_any (λ s. s == b) symbols ≡ true → (b == 92 || (b == 32 || b == 9)) ≡ false
symbol-solid [] b all any = cc
symbol-solid (s ∷ symbols) b all any = grind (
  arith,
  eqb-true,
  not_so,
  symbol-solid symbols b (second_so (not (s == 92 || (s == 32 || s ==
      9))) (list_all (λ x. not (x == 92 || (x == 32 || x == 9))) symbols) all),
)

letter-solid : (b : ℕ) → is_letter b ≡ true → (b == 92 || (b == 32 || b == 9)) ≡ false
letter-solid = grind (arith, nat_tests)

word-solid : (b : ℕ) → begins_word b ≡ true → (begins_comment b ≡ false) × (is_blank b ≡ false)
word-solid = search (rules, nor, letter-solid, symbol-solid)

-- a byte of names that does not begin a number begins a word
name-begins : (b : ℕ) → is_lp_byte b ≡ true → (is_digit b || b == 46) ≡ false → begins_word b ≡ true
name-begins = grind (arith, nor)

-- what is needed of the text of a word
pub record IsWord (text : List ℕ) : Type 0 where
  pub is : is_word text ≡ true

word-kind : (text : List ℕ) → is_word text ≡ true → kind_of text ≡ Some kinds.Word
word-kind = grind arith

pub word-begins : (text : List ℕ) → is_word text ≡ true → BeginsToken text
word-begins = search (rules, word-solid)

pub word-token : (text : List ℕ) → is_word text ≡ true → IsToken kinds.Word text
word-token text h = record { is = word-kind text h; begins = word-begins text h }

pub name-word : (name : List ℕ) → is_lp_name name ≡ true → is_word name ≡ true
name-word [] h = cc
name-word (b ∷ bytes) h = let no_marker = not (same_bytes (b ∷ bytes) marker) in
    let t4 = no_marker && not (is_reserved (b ∷ bytes)) in
    let t3 = not (is_like_exponent (b ∷ bytes)) && t4 in
    let t2 = not (begins_a_number (b ∷ bytes)) && t3 in
    let more = second_so _ _ h in
    let all = first_so _ _ more in
    let number = not_so _ (first_so _ _ (second_so _ _ more)) in
    both_so _ _ (name-begins b (first_so _ _ all) number) (second_so _ _ all)

-- ---- numbers

pub number-begins : (text : List ℕ) → begins_a_number text ≡ true → BeginsToken text
number-begins = grind arith

no-word : (text : List ℕ) → begins_a_number text ≡ true → is_word text ≡ false
no-word = search (rules, begins-no_number)

pub number-token : (text : List ℕ) → begins_a_number text ≡ true → is_literal text ≡ true → IsToken kinds.Number text
number-token = grind (arith, no-word, number-begins)

-- ---- the canonical text of a number that is not negative

digits-begin : (ds more : List ℕ) → AreDigits ds → 0 < length ds → begins_a_number (ds ++ more) ≡ true
digits-begin [] more h some = absurd (omega arith)
digits-begin (d ∷ ds) more h some = rw h.0 refl

point-begins : (c : ℕ) (padded more : List ℕ) → AreDigits padded → begins_a_number (take c padded ++ 46 ∷ more) ≡ true
point-begins = grind arith

scaled-begins : (ds : List ℕ) (e : ℤ) → AreDigits ds → 0 < length ds → begins_a_number (scaled_text ds e) ≡ true
scaled-begins ds (pos n) h some = grind (arith, replicate, digits-begin, append_assoc)
scaled-begins ds (negsuc n) h some = by (nat_lt n 18)
  where
    by : (b : Bool) → begins_a_number (if b then with_point (n + 1) ds else ds ++ codes "e-" ++ decimal (n + 1)) ≡ true
    by true = point-begins (length (replicate (n + 1 + 1 - length ds) 48 ++ ds) - (n + 1))
        (replicate (n + 1 + 1 - length ds) 48 ++ ds) _
        (Each-append (λ b. is_digit b ≡ true) (replicate (n + 1 + 1 - length ds) 48) ds
        (zeros_are_digits (n + 1 + 1 - length ds)) h)
    by false = grind (arith, append_assoc, digits-begin)

mantissa-small : (d : Number) → IsDecimal d → unsigned_abs d.mantissa < 10 ^ 64
mantissa-small d h = let few = ltb-true (unsigned_abs d.mantissa) (10 ^ 36) (first_so _ _ h) in omega (arith, few)

pub unsigned-begins : (d : Number) → IsDecimal d → is_negative d ≡ false → begins_a_number (number_text d) ≡ true
unsigned-begins = grind (arith, decimal-spells, mantissa-small, scaled-begins)

pub text-literal : (d : Number) → IsDecimal d → is_literal (number_text d) ≡ true
text-literal d h = (spells-from_number (number_text d) d (number-text d h)).literal

pub unsigned-token : (d : Number) → IsDecimal d → is_negative d ≡ false → IsToken kinds.Number (number_text d)
unsigned-token d h positive = number-token (number_text d) (unsigned-begins d h positive) (text-literal d h)

-- ---- the bytes of number literals: digits, signs, points and exponent marks

-- a property of each of these bytes holds for each byte of a literal
module _ (P : ℕ → Type 0) (digit : (b : ℕ) → is_digit b ≡ true → P b) (sign : (b : ℕ) → is_sign b ≡ true → P b)
    (point : (b : ℕ) → is_point b ≡ true → P b) (mark : (b : ℕ) → is_exponent_mark b ≡ true → P b) where
  both-parts : (xs ys : List ℕ) → Each P (xs ++ ys) → Each P xs × Each P ys
  both-parts [] _ h = (tt, h)
  both-parts (x ∷ xs) ys h = let more = both-parts xs ys h.1 in ((h.0, more.0), more.1)

  -- the parts before and after the first byte that passes a test, and that byte
  around : (p : ℕ → Bool) → ((b : ℕ) → p b ≡ true → P b) → (xs : List ℕ) → Each P (before_first p xs) → Each P (after_first p xs)
      → Each P xs
  around p _ [] h k = tt
  around p here (x ∷ xs) h k = grind (arith, around p here xs)

  signed-each : (xs : List ℕ) → Each P (without_sign xs) → Each P xs
  signed-each = grind arith

  digits-each : (xs : List ℕ) → are_digits xs ≡ true → Each P xs
  digits-each xs h = Each-weaker (λ b. is_digit b ≡ true) P digit xs (Each-from_list_all is_digit xs (second_so _ _ h))

  none-marked : (xs : List ℕ) → list_any is_exponent_mark xs ≡ false → Each (λ b. is_exponent_mark b ≡ false) xs
  none-marked [] h = tt
  none-marked (x ∷ xs) h = let both = nor _ _ h in (both.0, none-marked xs both.1)

  exponent-each : (text : List ℕ)
      → (not (list_any is_exponent_mark text) || are_digits (without_sign (exponent_part text))) ≡ true →
      Each P (exponent_part text)
  exponent-each text h = elim (list_any is_exponent_mark text) as (λ b. list_any is_exponent_mark text ≡ b
      → (not b || are_digits (without_sign (exponent_part text))) ≡ true → Each P (exponent_part text)) [
        | true ↦ λ _ digits. signed-each (exponent_part text) (digits-each (without_sign (exponent_part text)) digits)
        | false ↦ λ none _. subst (Each P) (sym (after-none is_exponent_mark text (none-marked text none))) tt
      ]
      refl h

  pub literal-each : (text : List ℕ) → is_literal text ≡ true → Each P text
  literal-each text h = let exponent : Bool =
      not (list_any is_exponent_mark text) || are_digits (without_sign (exponent_part text)) in
      let digits = digits-each (mantissa_digits text) (first_so _ _ h) in
      let parts = both-parts (before_first is_point (unsigned_part text)) (after_first is_point (unsigned_part text)) digits in
      let front = signed-each (before_first is_exponent_mark text) (around is_point point (unsigned_part text) parts.0 parts.1) in
      around is_exponent_mark mark text front (exponent-each text (second_so _ _ h))

-- ---- what ends a token: a space ends each, a colon ends a name, and a minus is a token by itself unless `>` follows

-- ---- no token

abbrev choice : Bool → Bool → Option TokenKind → Option TokenKind
choice is_one is_other operator = elim is_one as (λ _. Option TokenKind)
    [ true ↦ Some kinds.Word | false ↦ elim is_other as (λ _. Option TokenKind) [ true ↦ Some kinds.Number | false ↦ operator ] ]

no-kind : (text : List ℕ) → is_word text ≡ false → is_number text ≡ false → operator_kind text ≡ None → kind_of text ≡ None
no-kind _ a b c = λ i. choice (a i) (b i) (c i)

-- one byte that no word continues with
broken : (p : ℕ → Bool) (xs ys : List ℕ) (b : ℕ) → p b ≡ false → list_all p (xs ++ b ∷ ys) ≡ false
broken p [] ys b h = rw h refl
broken p (x ∷ xs) ys b h = grind (arith, broken p xs ys b h)

word-broken : (text more : List ℕ) (b : ℕ) → begins_word b ≡ false → continues_word b ≡ false → is_word (text ++ b ∷ more) ≡ false
word-broken [] more b h k = rw h refl
word-broken (c ∷ cs) more b h k = search (rules, broken continues_word cs more b k)

none-found : {X : Type 0} (p : X → Bool) (table : List X) → Each (λ (entry : X). p entry ≡ false) table → find p table ≡ None
none-found p [] h = refl
none-found p (entry ∷ table) h = rw h.0 (none-found p table h.1)

-- ---- a space

abbrev NotBlank : ℕ → Type 0
NotBlank b = (b == 32) ≡ false

literal-solid : (text : List ℕ) → is_literal text ≡ true → Each NotBlank text
literal-solid = grind (arith, literal-each, arith, nat_tests)

blank-in : (xs ys : List ℕ) → Each NotBlank (xs ++ 32 ∷ ys) → ⊥
blank-in [] ys h = cc
blank-in (x ∷ xs) ys h = blank-in xs ys h.1

number-blank : (text more : List ℕ) → is_number (text ++ 32 ∷ more) ≡ false
number-blank = grind (arith, blank-in, literal-solid)

second-blank : (c : ℕ) → operator_kind (c ∷ 32 ∷ []) ≡ None
second-blank = grind arith

operator-blank : (text more : List ℕ) → operator_kind (text ++ 32 ∷ more) ≡ None
operator-blank [] [] = refl
operator-blank [] (a ∷ []) = refl
operator-blank [] (a ∷ b ∷ _) = refl
operator-blank (c ∷ []) [] = second-blank c
operator-blank (c ∷ []) (a ∷ _) = refl
operator-blank (c ∷ d ∷ []) _ = refl
operator-blank (c ∷ d ∷ e ∷ _) _ = refl

pub stops-blank : (text : List ℕ) → StopsAt text 32
stops-blank text more = no-kind (text ++ 32 ∷ more) (word-broken text more 32 refl refl) (number-blank text more)
    (operator-blank text more)

-- ---- a colon after a name

abbrev is_operator_byte : ℕ → Bool
is_operator_byte b = list_any (λ (o : ℕ). o == b) (codes "<>=:-")

symbol-apart : (symbols : List ℕ) (c : ℕ)
    → list_all (λ s. not (is_operator_byte s)) symbols ≡ true → list_any (λ s. s == c) symbols ≡ true → is_operator_byte c ≡ false
symbol-apart [] c all any = cc
symbol-apart (s ∷ symbols) c all any = grind (
  arith,
  eqb-true,
  not_so,
  symbol-apart symbols c (second_so (not (is_operator_byte s)) (list_all (λ x. not (is_operator_byte x)) symbols) all),
)

letter-apart : (c : ℕ) → is_letter c ≡ true → is_operator_byte c ≡ false
letter-apart = grind (arith, nat_tests)

first-apart : (c : ℕ) → begins_word c ≡ true → is_operator_byte c ≡ false
first-apart = search (rules, letter-apart, symbol-apart)

-- an operator of two bytes begins with the byte of an operator
first-found : (c d : ℕ) → is_operator_byte c ≡ false → operator_kind (c ∷ d ∷ []) ≡ None
first-found = grind arith

operator-colon : (c : ℕ) (text more : List ℕ) → is_operator_byte c ≡ false → operator_kind ((c ∷ text) ++ 58 ∷ more) ≡ None
operator-colon c [] [] h = first-found c 58 h
operator-colon c [] (a ∷ _) h = refl
operator-colon c (d ∷ []) _ h = refl
operator-colon c (d ∷ e ∷ _) _ h = refl

begins-word : (c : ℕ) → begins_word c ≡ true → (is_digit c || c == 46) ≡ false
begins-word c h = not_so _ (begins-no_number c h)

pub stops-colon : (c : ℕ) (text : List ℕ) → begins_word c ≡ true → StopsAt (c ∷ text) 58
stops-colon c text h more = no-kind ((c ∷ text) ++ 58 ∷ more) (word-broken (c ∷ text) more 58 refl refl)
    (ap (λ (b : Bool). elim b as (λ _. Bool) [ true ↦ is_literal ((c ∷ text) ++ 58 ∷ more) | false ↦ false ])
    (begins-word c h)) (operator-colon c text more (first-apart c h))

-- ---- a minus

operator-minus : (b : ℕ) (more : List ℕ) → (62 == b) ≡ false → operator_kind (45 ∷ b ∷ more) ≡ None
operator-minus = grind arith

pub stops-minus : (b : ℕ) → (62 == b) ≡ false → StopsAt (codes "-") b
stops-minus b h more = no-kind (45 ∷ b ∷ more) refl refl (operator-minus b more h)

-- ---- the tokens of a printed line are those of its pieces

-- ---- pieces that can be printed

-- a word of 1 to 255 bytes without an error of its own
pub record IsGoodWord (text : List ℕ) : Type 0 where
  pub is : is_word text ≡ true
  pub short : length text ≤ 255
  pub faultless : token_fault kinds.Word text ≡ None

-- such a word that is a name
pub record IsGoodName (name : List ℕ) : Type 0 where
  pub word_is : IsGoodWord name
  pub word_class : class_of name ≡ meanings.Name

abbrev pub IsPrintable : Lexeme → Type 0
IsPrintable (word text) = IsGoodWord text
IsPrintable (label name) = IsGoodName name
IsPrintable (number value) = IsDecimal value
IsPrintable _ = Unit {0}

-- ---- what follows a piece: a space, or nothing

abbrev Apart : List ℕ → Type 0
Apart [] = Unit {0}
Apart (byte ∷ _) = byte ≡ 32

stops-apart : (text rest : List ℕ) → Apart rest → Stops text rest
stops-apart = grind (arith, stops-blank)

-- ---- a piece

stops-at_colon : (name : List ℕ) → is_word name ≡ true → StopsAt name 58
stops-at_colon = search (rules, stops-colon)

colon-token : IsToken kinds.Colon (codes ":")
colon-token = record { is = refl; begins = (refl, refl) }

label-read : (name rest : List ℕ) (expected : List SeenToken) → is_word name ≡ true → Apart rest → Reads rest expected
    → Reads ((name ++ codes ":") ++ rest) ((kinds.Word, name) ∷ (kinds.Colon, codes ":") ∷ expected)
label-read = search (rules, append_assoc, reads-token, word-token, stops-at_colon, colon-token, stops-apart)

minus-token : IsToken kinds.Minus (codes "-")
minus-token = record { is = refl; begins = (refl, refl) }

number-no_greater : (b : ℕ) → (is_digit b || b == 46) ≡ true → (62 == b) ≡ false
number-no_greater = grind (arith, nat_tests)

-- a minus before a number
minus-read : (text rest : List ℕ) (expected : List SeenToken)
    → begins_a_number text ≡ true → Reads (text ++ rest) expected → Reads (45 ∷ (text ++ rest)) ((kinds.Minus, codes "-") ∷ expected)
minus-read [] rest expected h more = cc
minus-read (b ∷ bytes) rest expected h more =
    reads-token kinds.Minus (codes "-") ((b ∷ bytes) ++ rest) expected minus-token (stops-minus b (number-no_greater b h)) more

size-positive : (z : ℤ) → int_le (pos (unsigned_abs z)) (negsuc 0) ≡ false
size-positive z = refl

-- a negative number is a minus and its absolute value
pub negative-text : (value : Number) → is_negative value ≡ true → number_text value ≡ 45 ∷ number_text (size_of value)
negative-text = grind arith

number-read : (value : Number) (rest : List ℕ) (expected : List SeenToken)
    → IsDecimal value → Apart rest → Reads rest expected →
    Reads (number_text value ++ rest) (tokens_in (number value) ++ expected)
number-read value rest expected h apart more = by (is_negative value) refl
  where
    size-read : Reads (number_text (size_of value) ++ rest) ((kinds.Number, number_text (size_of value)) ∷ expected)
    size-read = reads-token kinds.Number (number_text (size_of value)) rest expected
        (unsigned-token (size_of value) h (size-positive value.mantissa))
        (stops-apart (number_text (size_of value)) rest apart) more

    by : (b : Bool) → is_negative value ≡ b → Reads (number_text value ++ rest) ((if b then (kinds.Minus, codes "-")
        ∷ (kinds.Number, number_text (size_of value)) ∷ [] else (kinds.Number, number_text value) ∷ []) ++ expected)
    by true e =
        subst (λ (text : List ℕ). Reads (text ++ rest) ((kinds.Minus, codes "-") ∷ (kinds.Number, number_text (size_of value)) ∷ expected))
        (sym (negative-text value e)) (minus-read (number_text (size_of value)) rest ((kinds.Number, number_text (size_of value))
        ∷ expected) (unsigned-begins (size_of value) h (size-positive value.mantissa)) size-read)
    by false e = reads-token kinds.Number (number_text value) rest expected (unsigned-token value h e)
        (stops-apart (number_text value) rest apart) more

sign-token : (minus : Bool) → IsToken (sign_kind minus) (sign_bytes minus)
sign-token = grind arith

sense-token : (relation : Relation) → IsToken (sense_kind relation) (sense_bytes relation)
sense-token = grind arith

-- a minus ends the word before it
stops-semi : StopsAt (codes "Semi") 45
stops-semi _ = refl

pub piece-read : (piece : Lexeme) (rest : List ℕ) (expected : List SeenToken)
    → IsPrintable piece → Apart rest → Reads rest expected → Reads (lexeme_text piece ++ rest) (tokens_in piece ++ expected)
piece-read (word text) rest expected h apart more =
    reads-token kinds.Word text rest expected (word-token text h.is) (stops-apart text rest apart) more
piece-read (label name) rest expected h apart more = label-read name rest expected h.word_is.is apart more
piece-read (number value) rest expected h apart more = number-read value rest expected h apart more
piece-read (sign minus) rest expected h apart more =
    reads-token (sign_kind minus) (sign_bytes minus) rest expected (sign-token minus)
    (stops-apart (sign_bytes minus) rest apart) more
piece-read (sense relation) rest expected h apart more = reads-token
    (sense_kind relation) (sense_bytes relation) rest expected (sense-token relation)
    (stops-apart (sense_bytes relation) rest apart) more
piece-read minus_infinity rest expected h apart more = reads-token kinds.Minus (codes "-")
    (codes "infinity" ++ rest) ((kinds.Word, codes "infinity") ∷ expected) minus-token (stops-minus 105 refl) (reads-token kinds.Word
    (codes "infinity") rest expected (word-token (codes "infinity") refl) (stops-apart (codes "infinity") rest apart) more)
piece-read semi_continuous rest expected h apart more =
    reads-token kinds.Word (codes "Semi") (codes "-Continuous" ++ rest) ((kinds.Minus, codes "-")
    ∷ (kinds.Word, codes "Continuous") ∷ expected) (word-token (codes "Semi") refl) stops-semi (reads-token kinds.Minus (codes "-")
    (codes "Continuous" ++ rest) ((kinds.Word, codes "Continuous") ∷ expected) minus-token (stops-minus 67 refl) (reads-token kinds.Word
    (codes "Continuous") rest expected (word-token (codes "Continuous") refl) (stops-apart (codes "Continuous") rest apart) more))

-- ---- a line

-- what is printed after the first piece
abbrev pub after_first_piece : List Lexeme → List ℕ
after_first_piece lexemes = flat_map (λ piece. codes " " ++ lexeme_text piece) lexemes

after-apart : (lexemes : List Lexeme) → Apart (after_first_piece lexemes)
after-apart [] = tt
after-apart (piece ∷ _) = refl

from-read : (piece : Lexeme) (lexemes : List Lexeme) → IsPrintable piece
    → Each IsPrintable lexemes → Reads (lexeme_text piece ++ after_first_piece lexemes)
    (tokens_in piece ++ flat_map tokens_in lexemes)
from-read piece [] h k = piece-read piece [] [] h tt reads-nil
from-read piece (next ∷ lexemes) h k = grind (arith, piece-read, after-apart, reads-blank, from-read next lexemes k.0 k.1)

lexemes-read : (lexemes : List Lexeme) → Each IsPrintable lexemes
    → Reads (join_by lexeme_text (codes " ") lexemes) (flat_map tokens_in lexemes)
lexemes-read [] h = reads-nil
lexemes-read (piece ∷ lexemes) h = from-read piece lexemes h.0 h.1

blanks-read : (n : ℕ) (rest : List ℕ) (expected : List SeenToken) → Reads rest expected → Reads (replicate n 32 ++ rest) expected
blanks-read zero _ _ h = h
blanks-read (suc n) rest expected h = reads-blank (replicate n 32 ++ rest) expected (blanks-read n rest expected h)

-- the tokens of a printed line are those from which its pieces are printed
pub line-read : (line : PrintedLine) → Each IsPrintable line.lexemes → seen (tokens (line_text line)) ≡ line_tokens line
line-read line h = blanks-read line.indent (join_by lexeme_text (codes " ") line.lexemes) (line_tokens line) (lexemes-read line.lexemes h) 0
