-- The words of a line, and what a word that is no reserved one is.
use Rattle.std.proofs.Common.{Bool, List, [], ap, arith, drop, false, map, not, refl, suc, sym, take, true, zero, ℕ, ◌+◌, ◌-◌, ◌∙◌, ◌∷◌}
use Rattle.std.{proofs.{Common.◌≡◌, lemmas.Bool.{eqb-true, Decides.nat_tests}}, specs.{Cmp.{first_so, second_so}, List.{find, list_all}}}
use Rattle.std.specs.{List.list_any, Option.option_map_or, Prelude.{None, Option, Some, codes, ◌&&◌, ◌==◌, ◌||◌}}
use Rattle.mpslp_decimal.specs.Literal.{is_digit}
use Rattle.mpslp_types.{proofs.BoolLemmas.{both_so, or_right}, specs.Name.{begins_a_number, is_letter, is_lp_byte, is_lp_symbol}}
use Rattle.mpslp_types.specs.Name.{is_reserved, lower_byte, same_bytes}
use Rattle.mpslp_lp_tokens.specs.{Laws.{HasLpBytes, HaveLpBytes}, Scan.tokens_after, Token.{Front, Token, begins_comment, begins_word}}
use Rattle.mpslp_lp_tokens.specs.Token.{class_of, continues_word, is_blank, is_period, is_word, kind_of, longest_within, operator_kind}
use Rattle.mpslp_lp_tokens.specs.{Token.{token_at, tokens, tokens_from, word_classes}, declared.tokens.TokenKind.TokenKind}
use Rattle.mpslp_lp_tokens.specs.declared.words.WordClass.{WordClass}
use Rattle.mpslp_lp_tokens.specs.declared.tokens.TokenKind.TheVariants as kinds
use Rattle.mpslp_lp_tokens.specs.declared.words.WordClass.TheVariants as meanings

-- ---- a token of this kind is a word

abbrev pub WordIs : TokenKind → List ℕ → Type 0
WordIs kinds.Word text = is_word text ≡ true
WordIs _ text = Unit {0}

-- what is found up to a length: all the bytes, or what is found up to one byte less
pub one_less : (P : Option Front → Type 0) (most : ℕ) (bytes : List ℕ)
    → ((kind : TokenKind) → kind_of (take (suc most) bytes) ≡ Some kind → P (Some (record { kind = kind; size = suc most })))
    → (kind_of (take (suc most) bytes) ≡ None → P (longest_within most bytes)) → P (longest_within (suc most) bytes)
one_less P most bytes = by _
  where
    by : (o : Option TokenKind) → ((kind : TokenKind) → o ≡ Some kind → P (Some (record { kind = kind; size = suc most })))
        → (o ≡ None → P (longest_within most bytes))
        → P (elim o as (λ _. Option Front)
        [ Some kind ↦ Some (record { kind = kind; size = suc most }) | None ↦ longest_within most bytes ])
    by (Some kind) found none = found kind refl
    by None found none = none refl

pub front-kind : (most : ℕ) (bytes : List ℕ) (front : Front) → longest_within most bytes ≡ Some front
    → kind_of (take front.size bytes) ≡ Some front.kind
front-kind zero bytes front h = cc
front-kind (suc most) bytes front h =
    one_less (λ o. o ≡ Some front → kind_of (take front.size bytes) ≡ Some front.kind) most bytes (λ kind k e. grind arith)
    (λ _. front-kind most bytes front) h

operator-other : (text : List ℕ) → operator_kind text ≡ Some kinds.Word → ⊥
operator-other = grind arith

word-is : (text : List ℕ) → kind_of text ≡ Some kinds.Word → is_word text ≡ true
word-is = grind (arith, operator-other)

kind-word : (kind : TokenKind) (text : List ℕ) → kind_of text ≡ Some kind → WordIs kind text
kind-word = grind (arith, word-is)

-- ---- a word that is a name

none-digit : (symbols : List ℕ) (byte : ℕ) → list_all (λ symbol. not (is_digit symbol)) symbols ≡ true
    → list_any (λ symbol. symbol == byte) symbols ≡ true → not (is_digit byte) ≡ true
none-digit [] byte all any = cc
none-digit (symbol ∷ symbols) byte all any =
    grind (
      arith,
      eqb-true,
      none-digit symbols byte
          (second_so (not (is_digit symbol)) (list_all (λ s. not (is_digit s)) symbols) all),
    )

pub begins-no_number : (byte : ℕ) → begins_word byte ≡ true → not (is_digit byte || byte == 46) ≡ true
begins-no_number byte h = by _ refl h
  where
    by : (b : Bool) → is_letter byte ≡ b → (b || (is_lp_symbol byte && not (is_period byte))) ≡ true
        → not (is_digit byte || byte == 46) ≡ true
    by true e k = grind (arith, nat_tests, e)
    by false e k =
        grind (
          arith,
          (none-digit (codes "!\"#$%&()/,.;?@_'{}|~`") byte refl (first_so (is_lp_symbol byte) (not (is_period byte)) k)),
          second_so (is_lp_symbol byte) (not (is_period byte)) k,
        )

pub begins-lp : (byte : ℕ) → begins_word byte ≡ true → is_lp_byte byte ≡ true
begins-lp = grind (arith, or_right)

pub record IsWordText (text : List ℕ) : Type 0 where
  pub bytes : list_all is_lp_byte text ≡ true
  pub no_number : not (begins_a_number text) ≡ true

pub word-text : (text : List ℕ) → is_word text ≡ true → IsWordText text
word-text [] h = cc
word-text (byte ∷ bytes) h =
    let first = first_so (begins_word byte) (list_all continues_word bytes) h in
    record {
      bytes = both_so _ _ (begins-lp byte first) (second_so (begins_word byte) (list_all continues_word bytes) h);
      no_number = begins-no_number byte first;
    }

-- ---- a word that is not reserved

abbrev is_name_meaning : WordClass → Bool
is_name_meaning meanings.Name = true
is_name_meaning _ = false

abbrev meaning_in : List (List ℕ × WordClass) → List ℕ → WordClass
meaning_in table lower =
    option_map_or (λ (entry : List ℕ × WordClass). entry.1)
    (find (λ (entry : List ℕ × WordClass). same_bytes lower entry.0) table) meanings.Name

reserved-word_class : (table : List (List ℕ × WordClass)) (lower : List ℕ)
    → list_all (λ (e : List ℕ × WordClass). not (is_name_meaning e.1)) table ≡ true
    → list_any (same_bytes lower) (map (λ (e : List ℕ × WordClass). e.0) table) ≡ true
    → not (is_name_meaning (meaning_in table lower)) ≡ true
reserved-word_class [] lower all any = cc
reserved-word_class (entry ∷ table) lower all any = grind (
  arith,
  reserved-word_class table lower
      (second_so (not (is_name_meaning entry.1)) (list_all (λ e. not (is_name_meaning e.1)) table) all),
)

pub name-not_reserved : (word : List ℕ) → class_of word ≡ meanings.Name → not (is_reserved word) ≡ true
name-not_reserved word h = by _ refl
  where
    by : (b : Bool) → is_reserved word ≡ b → not b ≡ true
    by false e = refl
    by true e =
        let other = reserved-word_class word_classes (map lower_byte word) refl e in
        ap (λ m. not (is_name_meaning m)) (sym h) ∙ other

-- ---- the tokens of a line

abbrev pub AreWords : List Token → Type 0
AreWords [] = Unit {0}
AreWords (token ∷ more) = WordIs token.kind token.text × AreWords more

abbrev pub taken_token : ℕ → List ℕ → Token
taken_token place bytes = record { kind = (token_at bytes).kind; start = place; text = take (token_at bytes).size bytes }

-- the token that begins the bytes, and the others
abbrev pub taken_tokens : ℕ → ℕ → List ℕ → List Token
taken_tokens place byte bytes =
    taken_token place (byte ∷ bytes) ∷ tokens_from (place + 1) ((token_at (byte ∷ bytes)).size - 1) bytes

-- the tokens from a byte on: none at a comment, those after a space or tab, or the one that begins there and the others
pub from_byte : (P : List Token → Type 0) (place byte : ℕ) (bytes : List ℕ) → (begins_comment byte ≡ true → P [])
    → (is_blank byte ≡ true → P (tokens_from (place + 1) 0 bytes))
    → (begins_comment byte ≡ false → is_blank byte ≡ false → P (taken_tokens place byte bytes)) →
    P (tokens_from place 0 (byte ∷ bytes))
from_byte P place byte bytes = by _ _
  where
    by : (comment empty : Bool) → (comment ≡ true → P []) → (empty ≡ true → P (tokens_from (place + 1) 0 bytes))
        → (comment ≡ false → empty ≡ false → P (taken_tokens place byte bytes)) → P (elim comment as (λ _. List Token) [
          | true ↦ []
          | false ↦ elim empty as (λ _. List Token)
              [ true ↦ tokens_from (place + 1) 0 bytes | false ↦ taken_tokens place byte bytes ]
        ])
    by true empty none blank token = none refl
    by false true none blank token = blank refl
    by false false none blank token = token refl refl

words-from : (bytes : List ℕ) (place taken : ℕ) → AreWords (tokens_from place taken bytes)
words-from [] place taken = tt
words-from (byte ∷ bytes) place (suc taken) = words-from bytes _ taken
words-from (byte ∷ bytes) place zero =
    from_byte AreWords place byte bytes (λ _. tt) (λ _. words-from bytes _ 0)
    (λ _ _. ((grind (arith, kind-word, front-kind)), words-from bytes _ _))

word-bytes : (kind : TokenKind) (text : List ℕ) → WordIs kind text → HasLpBytes kind text
word-bytes = grind (arith, word-text)

words-bytes : (found : List Token) → AreWords found → HaveLpBytes found
words-bytes [] h = tt
words-bytes (token ∷ more) h = grind (arith, word-bytes, words-bytes more h.1)

pub after-bytes : (line : List ℕ) (at : ℕ) → HaveLpBytes (tokens_after line at)
after-bytes line at = words-bytes _ (words-from (drop at line) at 0)

pub tokens-words : (line : List ℕ) → AreWords (tokens line)
tokens-words line = words-from line 0 0
