-- Which tokens a line may have, and that a line with others is an error.
use Rattle.mpslp_lp.proofs.Prelude
use Prelude.{◌≡◌, refl, sym, ap, subst, ◌∙◌, List, [], ◌∷◌, length, ℕ, zero, suc, Bool, true, false, arith, ◌<◌, ◌≤◌, ◌+◌, ◌-◌, both_so}
use Prelude.{first_so, second_so, Option, Some, None, is_some, ◌&&◌, ◌||◌, not, ◌==◌, list_all, list_any, find, option_map, eqb-true}
use Prelude.{is_letter, is_lp_symbol, is_legal_byte, is_blank, begins_comment, begins_word, continues_word, is_word, is_number}
use Prelude.{operator_kind, kind_of, Front, longest_within, longest_token, token_at, Token, tokens_from, tokens, has_legal_bytes, is_known}
use Prelude.{front-kind, TokenKind, map, Err, if◌then◌else◌, BadByte}
use Prelude.{has_legal_length, LineError, Fault, Terminal, terminal_of, as_terminal, terminals, Other, AfterToken}
use Prelude.{Goes, Refuses, begin}
use Prelude.{step as take_illegal, TakesToken}
use Prelude.{Context, Place, State, take_all, take_tokens, take_line, rules}
use Rattle.std.proofs.{Common.take, lemmas.Bool.Decides.nat_tests}
use Rattle.mpslp_decimal.{proofs.GrammarLemmas.before-here, specs.Literal.{is_digit, is_point, is_sign, is_exponent_mark}}
use Rattle.mpslp_builder.proofs.SlotLemmas.{same_bytes-true}
use Rattle.mpslp_lp_grammar.specs.declared.states.ItemOwner.{ItemOwner}
use Rattle.mpslp_lp_tokens.proofs.NumberRun.{Stage, Class, class_of, next, accepts, Facts, facts, dead, number-takes, Class.IsOther}
use Rattle.mpslp_lp_tokens.proofs.{NumberRun.Stage.Dead, SliceLemmas.token-within}
use Rattle.mpslp_lp_tokens.specs.declared.tokens.TokenKind.TheVariants as kinds

-- ---- the bytes of a line are legal if and only if none of its tokens is unknown

-- a legal byte that does not begin a comment
abbrev plain : ℕ → Bool
plain b = is_legal_byte b && not (begins_comment b)

-- ---- words

any-all : (p : ℕ → Bool) (symbols : List ℕ) (byte : ℕ) → list_all p symbols ≡ true →
    list_any (λ symbol. symbol == byte) symbols ≡ true → p byte ≡ true
any-all p [] byte all any = cc
any-all p (symbol ∷ symbols) byte all any =
    grind (arith, eqb-true, any-all p symbols byte (second_so (p symbol) (list_all p symbols) all))

letter-plain : (b : ℕ) → is_letter b ≡ true → plain b ≡ true
letter-plain b h = grind (arith, nat_tests)

digit-plain : (b : ℕ) → is_digit b ≡ true → plain b ≡ true
digit-plain b h = grind (arith, nat_tests)

point-plain : (b : ℕ) → is_point b ≡ true → plain b ≡ true
point-plain b h = grind (arith, nat_tests)

mark-plain : (b : ℕ) → is_exponent_mark b ≡ true → plain b ≡ true
mark-plain b h = grind (arith, nat_tests)

sign-plain : (b : ℕ) → is_sign b ≡ true → plain b ≡ true
sign-plain b h = grind (arith, nat_tests)

symbol-plain : (b : ℕ) → is_lp_symbol b ≡ true → plain b ≡ true
symbol-plain = search (rules, any-all)

begins-plain : (b : ℕ) → begins_word b ≡ true → plain b ≡ true
begins-plain = grind (arith, letter-plain, symbol-plain)

continues-plain : (b : ℕ) → continues_word b ≡ true → plain b ≡ true
continues-plain = grind (arith, letter-plain, digit-plain, symbol-plain)

all-plain : (p : ℕ → Bool) → ((b : ℕ) → p b ≡ true → plain b ≡ true) → (t : List ℕ) → list_all p t ≡ true →
    list_all plain t ≡ true
all-plain p f [] h = refl
all-plain p f (b ∷ bs) h = grind (arith, both_so, all-plain p f bs (second_so (p b) (list_all p bs) h))

word-plain : (t : List ℕ) → is_word t ≡ true → list_all plain t ≡ true
word-plain [] h = cc
word-plain (b ∷ bs) h = both_so _ _ (begins-plain b (first_so _ _ h)) (all-plain _ continues-plain bs (second_so _ _ h))

-- ---- numbers

other-dead : (s : Stage) → next s IsOther ≡ Dead
other-dead = grind arith

takes-plain : (s : Stage) (t : List ℕ) → accepts s t ≡ true → list_all plain t ≡ true
takes-plain s [] h = refl
takes-plain s (b ∷ bs) h = both_so _ _ (by (class_of b) refl (facts b)) (takes-plain (next s (class_of b)) bs h)
  where
    by : (class : Class) → class_of b ≡ class → Facts b class → plain b ≡ true
    by = grind (arith, digit-plain, point-plain, mark-plain, sign-plain, accepts, other-dead, dead)

-- ---- operators

found-plain : {X : Type 0} (good test : X → Bool) (table : List (X × TokenKind)) (kind : TokenKind)
    → list_all (λ (e : X × TokenKind). good e.0 && is_known e.1) table ≡ true → option_map (λ (e : X × TokenKind). e.1)
    (find (λ (e : X × TokenKind). test e.0) table) ≡ Some kind →
    (x : X) × ((test x ≡ true) × (good x ≡ true) × (is_known kind ≡ true))
found-plain good test [] kind all h = cc
found-plain {X} good test (entry ∷ table) kind all h = grind (
  arith,
  found-plain good test table kind
      (second_so (good entry.0 && is_known entry.1) (list_all (λ (e : X × TokenKind). good e.0 && is_known e.1) table) all),
)

operator-plain : (t : List ℕ) (kind : TokenKind) → operator_kind t ≡ Some kind →
    (list_all plain t ≡ true) × (is_known kind ≡ true)
operator-plain = grind (arith, found-plain, both_so, eqb-true, same_bytes-true)

-- ---- a token

abbrev IsPlain : List ℕ → TokenKind → Type 0
IsPlain t kind = (list_all plain t ≡ true) × (is_known kind ≡ true)

abbrev known_or : Option TokenKind → Bool
known_or (Some k) = is_known k
known_or None = true

kind-plain : (t : List ℕ) (kind : TokenKind) → kind_of t ≡ Some kind → IsPlain t kind
kind-plain t kind h = by (is_word t) (is_number t) refl refl h
  where
    by : (w n : Bool) → is_word t ≡ w → is_number t ≡ n → elim w as (λ _. Option TokenKind) [
      | true ↦ Some kinds.Word
      | false ↦ elim n as (λ _. Option TokenKind)
          [ true ↦ Some kinds.Number | false ↦ operator_kind t ]
    ] ≡ Some kind → IsPlain t kind
    by true n e f k = grind (arith, word-plain)
    by false true e f k = grind (arith, takes-plain, number-takes)
    by false false e f k = operator-plain t _ k

none-shorter : (most : ℕ) (bytes : List ℕ) → longest_within most bytes ≡ None → (n : ℕ) → 0 < n → n ≤ most →
    kind_of (take n bytes) ≡ None
none-shorter zero bytes h n some w = grind arith
none-shorter (suc most) bytes h n some w = by (kind_of (take (suc most) bytes)) refl h (none-shorter most _)
  where
    not_same : (a b : ℕ) → (a == b) ≡ false → a ≤ b → a < b
    not_same a b f e = grind arith

    by : (o : Option TokenKind) → kind_of (take (suc most) bytes) ≡ o → elim o as (λ _. Option Front)
        [ Some kind ↦ Some (record { kind = kind; size = suc most }) | None ↦ longest_within most bytes ] ≡ None
        → (longest_within most bytes ≡ None → (m : ℕ) → 0 < m → m ≤ most → kind_of (take m bytes) ≡ None) →
        kind_of (take n bytes) ≡ None
    by (Some kind) e k later = cc
    by None e k later = last _ refl
      where
        last : (b : Bool) → (n == suc most) ≡ b → kind_of (take n bytes) ≡ None
        last = grind (arith, eqb-true, not_same)

-- each legal byte other than a space, a tab and a backslash is a token by itself
abbrev all_below : ℕ → (ℕ → Bool) → Bool
all_below zero p = true
all_below (suc n) p = p n && all_below n p

below : (n : ℕ) (p : ℕ → Bool) → all_below n p ≡ true → (m : ℕ) → m < n → p m ≡ true
below zero p h m w = grind arith
below (suc n) p h m w = grind (arith, eqb-true, below n p (second_so (p n) (all_below n p) h) m)

abbrev is_stated : ℕ → Bool
is_stated b = not (plain b && not (is_blank b)) || is_some (kind_of (b ∷ []))

all-stated : all_below 127 is_stated ≡ true
all-stated = refl

plain-below : (b : ℕ) → plain b ≡ true → b < 127
plain-below b h = grind (arith, nat_tests)

unknown-bad : (b : ℕ) → is_blank b ≡ false → kind_of (b ∷ []) ≡ None → plain b ≡ false
unknown-bad b k none = by (plain b) refl
  where
    by : (x : Bool) → plain b ≡ x → x ≡ false
    by true e = let stated = below _ is_stated all-stated b (plain-below b e) in
        let clash : false ≡ true = (λ i. not (sym e i && not (sym k i)) || is_some (sym none i)) ∙ stated in cc
    by false e = refl

abbrev IsReported : ℕ → List ℕ → Front → Bool → Type 0
IsReported b bs front true = list_all plain (take front.size (b ∷ bs)) ≡ true
IsReported b bs front false = plain b ≡ false

stated : (b : ℕ) (bs : List ℕ) → is_blank b ≡ false → IsReported b bs (token_at (b ∷ bs)) (is_known (token_at (b ∷ bs)).kind)
stated b bs k = by (longest_token (b ∷ bs)) refl
  where
    take_one : (xs : List ℕ) → take 1 (b ∷ xs) ≡ b ∷ []
    take_one = grind arith

    by : (o : Option Front) → longest_token (b ∷ bs) ≡ o
        → IsReported b bs (elim o as (λ _. Front) [ Some f ↦ f | None ↦ record { kind = kinds.Unknown; size = 1 } ])
        (is_known (elim o as (λ _. Front) [ Some f ↦ f | None ↦ record { kind = kinds.Unknown; size = 1 } ]).kind)
    by (Some f) e = let p = kind-plain (take f.size (b ∷ bs)) _ (front-kind (length (b ∷ bs)) (b ∷ bs) f e) in
        subst (λ (x : Bool). IsReported b bs f x) (sym p.1) p.0
    by None e = unknown-bad b k (ap kind_of (sym (take_one bs)) ∙ none-shorter (length (b ∷ bs)) (b ∷ bs) e 1
        (omega arith) (omega arith))

-- ---- a line

legal-plain : (b : ℕ) (bs : List ℕ) → plain b ≡ true → has_legal_bytes (b ∷ bs) ≡ has_legal_bytes bs
legal-plain = grind arith

legal-bad : (b : ℕ) (bs : List ℕ) → begins_comment b ≡ false → plain b ≡ false → has_legal_bytes (b ∷ bs) ≡ false
legal-bad = grind arith

blank-plain : (b : ℕ) → is_blank b ≡ true → plain b ≡ true
blank-plain b h = grind (arith, nat_tests)

abbrev all_known : List Token → Bool
all_known found = list_all (λ (token : Token). is_known token.kind) found

legal-from : (bytes : List ℕ) (place taken : ℕ) → list_all plain (take taken bytes) ≡ true →
    has_legal_bytes bytes ≡ all_known (tokens_from place taken bytes)
legal-from [] _ _ h = refl
legal-from (b ∷ bs) place (suc taken) h =
    grind (arith, legal-plain, legal-from bs (place + 1) taken (second_so (plain b) (list_all plain (take taken bs)) h))
legal-from (b ∷ bs) place zero h = by (begins_comment b) (is_blank b) refl refl (legal-from bs _)
  where
    take_none : (xs : List ℕ) → list_all plain (take 0 xs) ≡ true
    take_none = grind arith

    by : (comment blank : Bool) → begins_comment b ≡ comment → is_blank b ≡ blank
        → ((taken : ℕ) → list_all plain (take taken bs) ≡ true →
        has_legal_bytes bs ≡ all_known (tokens_from (place + 1) taken bs)) →
        has_legal_bytes (b ∷ bs) ≡ all_known (elim comment as (λ _. List Token) [
          | true ↦ []
          | false ↦
              elim blank as (λ _. List Token) [
                | true ↦ tokens_from (place + 1) zero bs
                | false ↦
                    record { kind = (token_at (b ∷ bs)).kind; start = place; text = take (token_at (b ∷ bs)).size (b ∷ bs) }
                    ∷ tokens_from (place + 1) ((token_at (b ∷ bs)).size - 1) bs
              ]
        ])
    by true blank c k more = grind (arith, before-here)
    by false true c k more = grind (arith, legal-plain, blank-plain, take_none)
    by false false c k more = known (is_known _) (token_at (b ∷ bs)).size refl refl (stated b bs k)
      where
        less : (m : ℕ) → suc m - 1 ≡ m
        less = grind arith

        known : (x : Bool) (n : ℕ) → is_known (token_at (b ∷ bs)).kind ≡ x → (token_at (b ∷ bs)).size ≡ n → IsReported b bs
            (token_at (b ∷ bs)) x → has_legal_bytes
            (b ∷ bs) ≡ (x && all_known (tokens_from (place + 1) ((token_at (b ∷ bs)).size - 1) bs))
        known false n e f t = legal-bad b bs c t
        known true zero e f t = grind (arith, token-within)
        known true (suc n) e f t = grind (arith, legal-plain, less)

pub legal-known : (line : List ℕ) → has_legal_bytes line ≡ all_known (tokens line)
legal-known = grind (arith, legal-from)

-- ---- the tokens of a line with an illegal byte are never accepted: one of them is unknown, and no rule accepts it

abbrev IsRefused : AfterToken → Type 0
IsRefused (Goes after next) = ⊥
IsRefused (Refuses kind) = Unit {0}

-- ---- a token that no rule accepts

begun-other : (place : Place) (context : Context) → IsRefused (begin place context Other)
begun-other = grind arith

other-refused : (context : Context) (state : State) → IsRefused (take_illegal context state Other)
other-refused = grind arith

unknown-other : (kind : TokenKind) (text : List ℕ) → is_known kind ≡ false → terminal_of kind text ≡ Other
unknown-other = grind arith

-- ---- the tokens of a line

abbrev taken_on : AfterToken → List Terminal → AfterToken
taken_on taken terminals = elim taken as (λ _. AfterToken)
    [ Goes after next ↦ take_all after next terminals | Refuses kind ↦ Refuses kind ]

refused-on : (taken : AfterToken) (terminals : List Terminal) → IsRefused taken → IsRefused (taken_on taken terminals)
refused-on = grind arith

later-refused : (taken : AfterToken) (terminals : List Terminal)
    → ((after : Context) (next : State) → IsRefused (take_all after next terminals)) → IsRefused (taken_on taken terminals)
later-refused = grind arith

unknown-refused : (found : List Token) (context : Context) (state : State) → all_known found ≡ false →
    IsRefused (take_all context state (map as_terminal found))
unknown-refused [] context state h = absurd cc
unknown-refused (token ∷ more) context state h = by _ refl h (unknown-refused more)
  where
    by : (known : Bool) → is_known token.kind ≡ known → (known && all_known more) ≡ false
        → ((after : Context) (next : State) → all_known more ≡ false → IsRefused (take_all after next (map as_terminal more)))
        → IsRefused (taken_on (take_illegal context state (as_terminal token)) (map as_terminal more))
    by = grind (arith, later-refused, take_illegal, refused-on, unknown-other, other-refused)

illegal-refused : (context : Context) (state : State) (line : List ℕ) → has_legal_bytes line ≡ false →
    IsRefused (take_tokens context state (tokens line))
illegal-refused = grind (arith, unknown-refused, legal-known)

-- ---- a line

line-legal : (context : Context) (state : State) (line : List ℕ) → has_legal_length line ≡ true → has_legal_bytes line ≡ true
    → take_line context state line ≡ take_tokens context state (tokens line)
line-legal = grind arith

-- a line whose tokens are accepted
pub line-taken : (context after : Context) (state next : State) (line : List ℕ) → has_legal_length line ≡ true
    → take_tokens context state (tokens line) ≡ Goes after next → take_line context state line ≡ Goes after next
line-taken = grind (arith, line-legal, illegal-refused)

-- the error of its tokens, before which an illegal byte is reported
pub line-refused : (context after : Context) (state : State) (line : List ℕ) (error reported : LineError)
    → has_legal_length line ≡ true → TakesToken (take_tokens context state (tokens line)) (Err error) after
    → reported ≡ (if has_legal_bytes line then error else Fault BadByte) →
    TakesToken (take_line context state line) (Err reported) after
line-refused = grind arith
