-- The tokens of a line are consecutive slices of it that do not overlap.
use Rattle.std.proofs.Common.{Bool, List, [], ap, arith, cond, drop, false, get_or, inl, inr, length, map, refl, subst, suc, sym, take}
use Rattle.std.proofs.{Common.{true, zero, ℕ, ◌++◌, ◌+◌, ◌-◌, ◌<◌, ◌∙◌, ◌∷◌, ◌≡◌, ◌≤◌}, Math.Seq.drop-drop, lemmas.Bool.eqb-true}
use Rattle.std.{proofs.lemmas.List.{length-drop, length-take-le, take_rest}, specs.{List.{list_all, prefix_len}, Prelude.{None, Option}}}
use Rattle.std.specs.Prelude.{Some, ◌==◌, ◌⊎◌}
use Rattle.mpslp_types.proofs.BoolLemmas.{both_so}
use Rattle.mpslp_lp_tokens.proofs.{FrontLemmas.{found-at, none-at}, NameTokens.{from_byte, one_less, taken_token, taken_tokens}}
use Rattle.mpslp_lp_tokens.specs.Laws.{AreLongest, AreSlices, BeginWith, IsMadeOf, IsNoLonger, LinesAreTokens, LongestAreTokens}
use Rattle.mpslp_lp_tokens.specs.{Laws.{SpacedToken, TokensAreLongest, are_blank, is_comment, joined}, Scan.{IsNext, tokens_after}}
use Rattle.mpslp_lp_tokens.specs.Token.{Front, Token, begins_comment, is_blank, kind_of, longest_token, longest_within, token_at, tokens}
use Rattle.{mpslp_lp_tokens.{specs.{Token.tokens_from, declared.{tokens.{Token.{Token as Found}, TokenKind.TheVariants.Unknown}}}}}

-- ---- a prefix

abbrev pub IsWithin : ℕ → Front → Type 0
IsWithin most front = (0 < front.size) × (front.size ≤ most)

found-within : (most : ℕ) (bytes : List ℕ) (front : Front) → longest_within most bytes ≡ Some front → IsWithin most front
found-within zero bytes front h = cc
found-within (suc most) bytes front h = grind (arith, found-within most bytes front)

-- at least one byte
pub token-within : (byte : ℕ) (bytes : List ℕ) → IsWithin (length (byte ∷ bytes)) (token_at (byte ∷ bytes))
token-within = grind (arith, found-within)

-- ---- all tokens

drop-more : (place : ℕ) (line : List ℕ) (byte : ℕ) (bytes : List ℕ) → drop place line ≡ byte ∷ bytes →
    drop (place + 1) line ≡ bytes
drop-more place line byte bytes h = let one_more : place + 1 ≡ suc place = omega arith in
    ap (λ n. drop n line) one_more ∙ by place line h
  where
    by : (n : ℕ) (l : List ℕ) → drop n l ≡ byte ∷ bytes → drop (suc n) l ≡ bytes
    by (suc n) (x ∷ l) e = by n l e
    by _ _ e = cc

slices-later : (line : List ℕ) (place later : ℕ) (found : List Token) → place ≤ later → AreSlices line later found
    → AreSlices line place found
slices-later line place later [] h k = tt
slices-later line place later (token ∷ found) h k = grind arith

slices-from : (line bytes : List ℕ) (place taken : ℕ) → drop place line ≡ bytes
    → AreSlices line (place + taken) (tokens_from place taken bytes)
slices-from line [] place taken h = tt
slices-from line (byte ∷ bytes) place (suc taken) h =
    grind (arith, drop-more, slices-from line bytes (place + 1) taken (drop-more place line byte bytes h))
slices-from line (byte ∷ bytes) place zero h =
    let front = token_at (byte ∷ bytes) in
    let within = token-within byte bytes in
    let next = drop-more place line byte bytes h in
    let size = length-take-le _ _ within.1 in
    from_byte (AreSlices line (place + zero)) place byte bytes (λ _. tt)
    (λ _. slices-later line _ _ _ (omega arith) (slices-from line bytes _ zero next))
    (λ _ _. (
      omega arith,
      omega (arith, size, within.0),
      ap (λ n. take n (drop place line)) size ∙ ap (λ l. take front.size l) h,
      subst (λ n. AreSlices line n (tokens_from (place + 1) (front.size - 1) bytes)) (omega (arith, size, within.0))
          (slices-from line bytes _ _ next),
    ))

pub tokens-slices : (line : List ℕ) → AreSlices line 0 (tokens line)
tokens-slices line = slices-from line line 0 0 refl

-- ---- A line is its tokens, the spaces and tabs between them and its comment.

made-nothing : IsMadeOf [] []
made-nothing = record {
  parts = [];
  last_blanks = [];
  comment = [];
  tokens_are = refl;
  blank = refl;
  last_blank = refl;
  comment_is = refl;
  bytes_are = refl;
}

made-comment : (byte : ℕ) (bytes : List ℕ) → begins_comment byte ≡ true → IsMadeOf [] (byte ∷ bytes)
made-comment byte bytes h = record {
  parts = [];
  last_blanks = [];
  comment = byte ∷ bytes;
  tokens_are = refl;
  blank = refl;
  last_blank = refl;
  comment_is = h;
  bytes_are = refl;
}

-- ---- one more space

blank-before : (byte : ℕ) → is_blank byte ≡ true → (blanks : List ℕ) → are_blank blanks ≡ true → are_blank (byte ∷ blanks) ≡ true
blank-before byte is blanks h = both_so _ _ is h

first-blank : (spaced : SpacedToken) (more : List SpacedToken) →
    list_all (λ (s : SpacedToken). are_blank s.blanks) (spaced ∷ more) ≡ true →
    (are_blank spaced.blanks ≡ true) × (list_all (λ (s : SpacedToken). are_blank s.blanks) more ≡ true)
first-blank = grind arith

-- it comes before the first token, or before the rest if there is no token
made-blank : (found : List Token) (byte : ℕ) (bytes : List ℕ) → is_blank byte ≡ true → IsMadeOf found bytes →
    IsMadeOf found (byte ∷ bytes)
made-blank found byte bytes is h = by h.parts h.tokens_are h.blank h.bytes_are
  where
    by : (parts : List SpacedToken) → map (λ spaced. spaced.token) parts ≡ found →
        list_all (λ spaced. are_blank spaced.blanks) parts ≡ true → joined parts (h.last_blanks ++ h.comment) ≡ bytes →
        IsMadeOf found (byte ∷ bytes)
    by [] t b e = record {
      parts = [];
      last_blanks = byte ∷ h.last_blanks;
      comment = h.comment;
      tokens_are = t;
      blank = refl;
      last_blank = blank-before byte is h.last_blanks h.last_blank;
      comment_is = h.comment_is;
      bytes_are = ap (λ rest. byte ∷ rest) e;
    }
    by (spaced ∷ more) t b e =
        let blank = first-blank spaced more b in
        record {
          parts = record { blanks = byte ∷ spaced.blanks; token = spaced.token } ∷ more;
          last_blanks = h.last_blanks;
          comment = h.comment;
          tokens_are = t;
          blank = both_so _ _ (blank-before byte is spaced.blanks blank.0) blank.1;
          last_blank = h.last_blank;
          comment_is = h.comment_is;
          bytes_are = ap (λ rest. byte ∷ rest) e;
        }

-- ---- one more token

made-token : (token : Token) (found : List Token) (bytes rest : List ℕ) → token.text ++ rest ≡ bytes → IsMadeOf found rest
    → IsMadeOf (token ∷ found) bytes
made-token token found bytes rest e h =
    record {
      parts = record { blanks = []; token = token } ∷ h.parts;
      last_blanks = h.last_blanks;
      comment = h.comment;
      tokens_are = ap (λ more. token ∷ more) h.tokens_are;
      blank = h.blank;
      last_blank = h.last_blank;
      comment_is = h.comment_is;
      bytes_are = ap (λ more. token.text ++ more) h.bytes_are ∙ e;
    }

-- the first bytes, at least one, and the rest
first-and-rest : (size : ℕ) (byte : ℕ) (bytes : List ℕ) → 0 < size →
    take size (byte ∷ bytes) ++ drop (size - 1) bytes ≡ byte ∷ bytes
first-and-rest zero byte bytes some = grind arith
first-and-rest (suc size) byte bytes some =
    let one_less : suc size - 1 ≡ size = omega arith in
    ap (λ n. byte ∷ (take size bytes ++ drop n bytes)) one_less ∙ ap (λ more. byte ∷ more) (halves size bytes)
  where
    halves : (n : ℕ) (xs : List ℕ) → take n xs ++ drop n xs ≡ xs
    halves (suc n) (x ∷ xs) = ap (λ more. x ∷ more) (halves n xs)
    halves _ _ = refl

nothing-dropped : (bytes : List ℕ) → drop 0 bytes ≡ bytes
nothing-dropped = grind arith

-- ---- all tokens

made-from : (place taken : ℕ) (bytes : List ℕ) → IsMadeOf (tokens_from place taken bytes) (drop taken bytes)
made-from place zero [] = made-nothing
made-from place _ [] = made-nothing
made-from place (suc taken) (byte ∷ bytes) = made-from (place + 1) taken bytes
made-from place zero (byte ∷ bytes) =
    let size = (token_at (byte ∷ bytes)).size in
    from_byte (λ found. IsMadeOf found (byte ∷ bytes)) place byte bytes (made-comment byte bytes)
    (λ b. made-blank _ byte bytes b (subst (IsMadeOf (tokens_from (place + 1) 0 bytes)) (nothing-dropped bytes)
    (made-from _ zero bytes))) (λ _ _. made-token _ _ _ _
    (first-and-rest size byte bytes (token-within byte bytes).0) (made-from (place + 1) (size - 1) bytes))

pub lines-joined : LinesAreTokens
lines-joined line = subst (λ rest. IsMadeOf (tokens_from 0 0 line) rest) (nothing-dropped line) (made-from 0 0 line)

-- ---- The first token of a line from a position on, and where the next ones begin.

-- ---- tokens of a text

abbrev choose : Bool → Bool → List Token → List Token → List Token
choose comment blank skipped found = elim comment [
  | true ↦ []
  | false ↦ elim blank [ true ↦ skipped | false ↦ found ]
]

skip-blanks : (bytes : List ℕ) (place : ℕ)
    → tokens_from place 0 bytes ≡ tokens_from (place + prefix_len is_blank bytes) 0 (drop (prefix_len is_blank bytes) bytes)
skip-blanks [] place = refl
skip-blanks (b ∷ bs) place = by _ refl (skip-blanks bs _)
  where
    by : (x : Bool) → is_blank b ≡ x → tokens_from (place + 1) 0 bs
        ≡ tokens_from (place + 1 + prefix_len is_blank bs) 0 (drop (prefix_len is_blank bs) bs)
        → tokens_from place 0 (b ∷ bs) ≡ tokens_from (place + cond x (1 + prefix_len is_blank bs) 0) 0
        (drop (cond x (1 + prefix_len is_blank bs) 0) (b ∷ bs))
    by = grind arith

abbrev NotBlank : List ℕ → Type 0
NotBlank [] = Unit {0}
NotBlank (b ∷ bs) = is_blank b ≡ false

not-blank : (bytes : List ℕ) → NotBlank (drop (prefix_len is_blank bytes) bytes)
not-blank [] = tt
not-blank (b ∷ bs) = by _ refl (not-blank bs)
  where
    by : (x : Bool) → is_blank b ≡ x → NotBlank (drop (prefix_len is_blank bs) bs)
        → NotBlank (drop (cond x (1 + prefix_len is_blank bs) 0) (b ∷ bs))
    by = grind arith

skip-taken : (n : ℕ) (bytes : List ℕ) (place : ℕ) → tokens_from place n bytes ≡ tokens_from (place + n) 0 (drop n bytes)
skip-taken (suc n) (b ∷ bs) place = grind (arith, skip-taken n bs (place + 1))
skip-taken _ _ place = grind arith

after-first : (place size b : ℕ) (bs : List ℕ) → 0 < size
    → tokens_from (place + 1) (size - 1) bs ≡ tokens_from (place + size) 0 (drop size (b ∷ bs))
after-first = grind (arith, skip-taken)

found-here : (place b : ℕ) (bs : List ℕ) → begins_comment b ≡ false → is_blank b ≡ false
    → tokens_from place 0 (b ∷ bs) ≡ taken_token place (b ∷ bs) ∷ tokens_from (place + (token_at (b ∷ bs)).size) 0
    (drop (token_at (b ∷ bs)).size (b ∷ bs))
found-here = grind (arith, after-first, token-within)

-- ---- tokens of a line

-- `n` spaces and tabs are at a position of a line, and what follows them
record IsAfterBlanks (line : List ℕ) (at n : ℕ) (rest : List ℕ) : Type 0 where
  tokens : tokens_after line at ≡ tokens_from (at + n) 0 rest
  visible : NotBlank rest

after-blanks : (line : List ℕ) (at n : ℕ) → n ≡ prefix_len is_blank (take (length line - at) (drop at line))
    → IsAfterBlanks line at n (drop (at + n) line)
after-blanks line at n e =
    let count = ap (prefix_len is_blank) (sym (take_rest line at)) ∙ sym e in
    let there = drop-drop _ at line ∙ ap (λ k. drop (at + k) line) count in
    record {
      tokens = skip-blanks (drop at line) at ∙ (λ i. tokens_from (at + count i) 0 (there i));
      visible = subst NotBlank there (not-blank (drop at line));
    }

none-left : (rest : List ℕ) (place : ℕ) → length rest ≤ 0 → tokens_from place 0 rest ≡ []
none-left [] place h = refl
none-left (b ∷ bs) place h = grind arith

comment-left : (rest : List ℕ) (place : ℕ) → 0 < length rest → begins_comment (get_or rest 0 0) ≡ true →
    tokens_from place 0 rest ≡ []
comment-left [] place some h = refl
comment-left (b ∷ bs) place some h = grind arith

-- at the end of the line, except for spaces and tabs
pub at-end : (line : List ℕ) (at n : ℕ) → n ≡ prefix_len is_blank (take (length line - at) (drop at line))
    → length (take (length line - (at + n)) (drop (at + n) line)) ≤ 0 → tokens_after line at ≡ []
at-end line at n e h =
    let r = after-blanks line at n e in
    r.tokens ∙ none-left _ (at + n) (subst (λ t. length t ≤ 0) (take_rest line (at + n)) h)

-- at a comment
pub at-comment : (line : List ℕ) (at n : ℕ) → n ≡ prefix_len is_blank (take (length line - at) (drop at line))
    → 0 < length (take (length line - (at + n)) (drop (at + n) line))
    → begins_comment (get_or (take (length line - (at + n)) (drop (at + n) line)) 0 0) ≡ true → tokens_after line at ≡ []
at-comment line at n e some h =
    let r = after-blanks line at n e in
    let here_is = take_rest line (at + n) in
    r.tokens
    ∙ comment-left _ (at + n) (subst (λ t. 0 < length t) here_is some) (ap (λ t. begins_comment (get_or t 0 0)) (sym here_is) ∙ h)

pub size-within : (t : List ℕ) (size : ℕ) → 0 < length t → size ≡ (token_at t).size → size ≡ length (take size t)
size-within = grind (arith, token-within, length-take-le)

next-is : (line rest : List ℕ) (at start : ℕ) (found : Found) → drop start line ≡ rest → at ≤ start → start ≤ length line
    → tokens_after line at ≡ tokens_from start 0 rest → NotBlank rest
    → 0 < length rest → begins_comment (get_or rest 0 0) ≡ false → found.kind ≡ (token_at rest).kind → found.start ≡ start
    → found.text.now ≡ take (token_at rest).size rest → IsNext line at found
next-is = grind (arith, token-within, length-take-le, length-drop, drop-drop, found-here)

pub next-found : (line : List ℕ) (at n : ℕ) (found : Found) → n ≡ prefix_len is_blank (take (length line - at) (drop at line))
    → at + n ≤ length line
    → 0 < length (take (length line - (at + n)) (drop (at + n) line))
    → begins_comment (get_or (take (length line - (at + n)) (drop (at + n) line)) 0 0) ≡ false
    → found.kind ≡ (token_at (take (length line - (at + n)) (drop (at + n) line))).kind → found.start ≡ at + n
    → (size : ℕ) → size ≡ (token_at (take (length line - (at + n)) (drop (at + n) line))).size
    → found.text.now ≡ take size (take (length line - (at + n)) (drop (at + n) line)) → IsNext line at found
next-found line at n found e w some c k s size z x =
    let r = after-blanks line at n e in
    let here_is = take_rest line (at + n) in
    next-is line _ at (at + n) found refl (omega arith) w r.tokens r.visible (subst (λ t. 0 < length t) here_is some)
    (ap (λ t. begins_comment (get_or t 0 0)) (sym here_is) ∙ c) (k ∙ ap (λ t. (token_at t).kind) here_is) s
    (x ∙ (λ i. take (z i) (here_is i)) ∙ ap (λ t. take (token_at t).size (drop (at + n) line)) here_is)

pub some-left : (n : ℕ) → (n == 0) ≡ false → 0 < n
some-left = grind arith

pub no-comment : (b : ℕ) → (b ≡ 92 → ⊥) → begins_comment b ≡ false
no-comment = grind arith

-- ---- the number of tokens

count-from : (bytes : List ℕ) (place taken : ℕ) → length (tokens_from place taken bytes) ≤ length bytes
count-from [] place taken = omega arith
count-from (b ∷ bs) place (suc taken) = omega (arith, count-from bs (place + 1) taken)
count-from (b ∷ bs) place zero =
    grind (arith, count-from bs (place + 1) 0, count-from bs (place + 1) ((token_at (b ∷ bs)).size - 1))

-- a token has at least one byte
pub count-within : (line : List ℕ) → length (tokens_from 0 0 line) ≤ length line
count-within line = count-from line 0 0

-- ---- The tokens of a line are the longest ones, and no other list of tokens is.

-- ---- the longest token of some bytes

-- up to a length
abbrev IsNoLongerWithin : ℕ → ℕ → List ℕ → Type 0
IsNoLongerWithin most size bytes = (n : ℕ) → size < n → n ≤ most → kind_of (take n bytes) ≡ None

one-longer : (most size : ℕ) (bytes : List ℕ) → kind_of (take (suc most) bytes) ≡ None → IsNoLongerWithin most size bytes
    → IsNoLongerWithin (suc most) size bytes
one-longer most size bytes none shorter n above within = by _ refl
  where
    by : (b : Bool) → (n == suc most) ≡ b → kind_of (take n bytes) ≡ None
    by true e = grind (arith, eqb-true)
    by false e = grind arith

-- what was found
abbrev IsFound : ℕ → List ℕ → Front → Type 0
IsFound most bytes front = (kind_of (take front.size bytes) ≡ Some front.kind) × IsNoLongerWithin most front.size bytes

found-longest : (most : ℕ) (bytes : List ℕ) (front : Front) → longest_within most bytes ≡ Some front → IsFound most bytes front
found-longest zero bytes front h = cc
found-longest (suc most) bytes front h =
    one_less (λ o. o ≡ Some front → IsFound (suc most) bytes front) most bytes (λ kind k e. grind arith)
    (λ k e. let shorter = found-longest most bytes front e in (shorter.0, one-longer most _ bytes k shorter.1)) h

none-within : (most : ℕ) (bytes : List ℕ) → longest_within most bytes ≡ None → IsNoLongerWithin most 0 bytes
none-within zero bytes h = grind arith
none-within (suc most) bytes h =
    one_less (λ o. o ≡ None → IsNoLongerWithin (suc most) 0 bytes) most bytes (λ kind k e. cc)
    (λ k e. one-longer most 0 bytes k (none-within most bytes e)) h

-- ---- the token that the definition takes begins the bytes

-- of a front
abbrev BeginsAs : List ℕ → ℕ → Front → Type 0
BeginsAs bytes place front = BeginWith (record { kind = front.kind; start = place; text = take front.size bytes }) bytes

begins-token : (place byte : ℕ) (bytes : List ℕ) → BeginWith (taken_token place (byte ∷ bytes)) (byte ∷ bytes)
begins-token place byte bytes = by _ refl (token-within byte bytes).1
  where
    front_of : Option Front → Front
    front_of o = elim o as (λ _. Front) [ Some front ↦ front | None ↦ record { kind = Unknown; size = 1 } ]

    by : (o : Option Front) → longest_token (byte ∷ bytes) ≡ o → (front_of o).size ≤ length (byte ∷ bytes)
        → BeginsAs (byte ∷ bytes) place (front_of o)
    by (Some front) e within =
        let size = length-take-le _ _ within in
        let found = found-longest _ _ front e in (
          ap (λ n. take n (byte ∷ bytes)) size,
          subst (λ n. IsNoLonger n (byte ∷ bytes)) (sym size) found.1,
          inl found.0,
        )
    by None e within =
        let none = none-within _ _ e in (
          refl,
          (λ n above most. none n (omega (arith, above)) most),
          inr (none 1 (omega arith) (omega arith), refl, refl),
        )

-- ---- all tokens

blanks-after : (byte : ℕ) (bytes : List ℕ) → is_blank byte ≡ true →
    prefix_len is_blank (byte ∷ bytes) ≡ suc (prefix_len is_blank bytes)
blanks-after = grind arith

-- the tokens of some bytes after so many spaces and tabs
abbrev AreAfter : ℕ → ℕ → List Token → List ℕ → Type 0
AreAfter blanks place [] bytes = is_comment (drop blanks bytes) ≡ true
AreAfter blanks place (token ∷ more) bytes =
    (is_comment (drop blanks bytes) ≡ false) × BeginWith token (drop blanks bytes) × (token.start ≡ place + blanks)
    × AreLongest (token.start + length token.text) more (drop (length token.text) (drop blanks bytes))

after-are : (place : ℕ) (found : List Token) (bytes : List ℕ) → AreAfter (prefix_len is_blank bytes) place found bytes
    → AreLongest place found bytes
after-are = grind arith

one-blank-less : (blanks place : ℕ) (found : List Token) (byte : ℕ) (bytes : List ℕ) →
    AreAfter (suc blanks) place found (byte ∷ bytes) → AreAfter blanks (place + 1) found bytes
one-blank-less = grind arith

blank-longest : (place : ℕ) (found : List Token) (byte : ℕ) (bytes : List ℕ) → is_blank byte ≡ true →
    AreLongest place found (byte ∷ bytes) → AreLongest (place + 1) found bytes
blank-longest = grind (arith, after-are, one-blank-less, blanks-after)

unblank-longest : (place : ℕ) (found : List Token) (byte : ℕ) (bytes : List ℕ) → is_blank byte ≡ false
    → AreAfter 0 place found (byte ∷ bytes) → AreLongest place found (byte ∷ bytes)
unblank-longest = grind arith

-- what is left after some bytes, of which there is one at least
drop-less : (size byte : ℕ) (bytes : List ℕ) → 0 < size → drop size (byte ∷ bytes) ≡ drop (size - 1) bytes
drop-less = grind arith

longest-from : (place taken : ℕ) (bytes : List ℕ) → AreLongest (place + taken) (tokens_from place taken bytes) (drop taken bytes)
longest-from place zero [] = refl
longest-from place (suc taken) [] = refl
longest-from place (suc taken) (byte ∷ bytes) = grind (arith, longest-from (place + 1) taken bytes)
longest-from place zero (byte ∷ bytes) =
    let front = token_at (byte ∷ bytes) in
    let within = token-within byte bytes in
    let size = length-take-le _ (byte ∷ bytes) within.1 in
    let here : place ≡ place + zero = omega arith in
    subst (λ n. AreLongest n (tokens_from place zero (byte ∷ bytes)) (byte ∷ bytes)) here
    (from_byte (λ found. AreLongest place found (byte ∷ bytes)) place byte bytes
    (λ c. unblank-longest place [] byte bytes (ap is_blank (eqb-true byte 92 c)) c)
    (λ b. (grind (
      arith,
      after-are,
      blanks-after,
      b,
      (subst (AreLongest (place + 1) (tokens_from (place + 1) zero bytes)) (nothing-dropped bytes)
          (subst (λ n. AreLongest n (tokens_from (place + 1) zero bytes) (drop 0 bytes)) (omega arith)
          (longest-from _ zero bytes))),
    )))
    (λ c b. unblank-longest place (taken_tokens place byte bytes) byte bytes b (
      c,
      begins-token place byte bytes,
      here,
      subst (AreLongest (place + length (take front.size (byte ∷ bytes))) (tokens_from (place + 1) (front.size - 1) bytes))
          (sym (ap (λ n. drop n (byte ∷ bytes)) size ∙ drop-less front.size byte bytes within.0))
          (subst (λ n. AreLongest n (tokens_from (place + 1) (front.size - 1) bytes) (drop (front.size - 1) bytes))
          (omega (arith, size, within.0)) (longest-from (place + 1) (front.size - 1) bytes)),
    )))

pub tokens-longest : TokensAreLongest
tokens-longest line = subst (λ rest. AreLongest 0 (tokens_from 0 0 line) rest) (nothing-dropped line) (longest-from 0 0 line)

-- ---- no other tokens

take-within : (n : ℕ) (xs : List ℕ) → length (take n xs) ≤ length xs
take-within (suc n) (x ∷ xs) = let less = take-within n xs in omega (arith, less)
take-within _ _ = grind arith

front-is : (token : Token) (bytes : List ℕ) → BeginWith token bytes
    → token_at bytes ≡ record { kind = token.kind; size = length token.text }
front-is token bytes h = by h.2
  where
    none_at_all : kind_of token.text ≡ None → length token.text ≡ 1 → (n : ℕ) → 0 < n → n ≤ length bytes →
        kind_of (take n bytes) ≡ None
    none_at_all none one n some within = of (n == 1) refl
      where
        of : (b : Bool) → (n == 1) ≡ b → kind_of (take n bytes) ≡ None
        of = grind arith

    by : (kind_of token.text ≡ Some token.kind) ⊎ ((kind_of token.text ≡ None) × (token.kind ≡ Unknown) × (length token.text ≡ 1))
        → token_at bytes ≡ record { kind = token.kind; size = length token.text }
    by (inl k) =
        let within = subst (λ t. length t ≤ length bytes) h.0 (take-within _ bytes) in
        found-at bytes _ _ (grind (arith, k)) within (ap kind_of h.0 ∙ k) h.1
    by (inr k) = grind (arith, none-at, none_at_all)

abbrev token_of : ℕ → List ℕ → Front → Token
token_of place bytes front = record { kind = front.kind; start = place; text = take front.size bytes }

unique-token : (place byte : ℕ) (bytes : List ℕ) (token : Token) (found : List Token) →
    AreAfter 0 place (token ∷ found) (byte ∷ bytes) →
    (AreLongest (place + 1 + ((token_at (byte ∷ bytes)).size - 1)) found (drop ((token_at (byte ∷ bytes)).size - 1) bytes)
    → found ≡ tokens_from (place + 1) ((token_at (byte ∷ bytes)).size - 1) bytes) → token ∷ found ≡ taken_tokens place byte bytes
unique-token = grind (arith, token-within, front-is, drop-less)

longest-unique : (place taken : ℕ) (bytes : List ℕ) (found : List Token) → AreLongest (place + taken) found (drop taken bytes)
    → found ≡ tokens_from place taken bytes
longest-unique place zero [] (token ∷ found) h = cc
longest-unique place (suc taken) [] (token ∷ found) h = cc
longest-unique place (suc taken) (byte ∷ bytes) found h =
    grind (
      arith,
      longest-unique (place + 1) taken bytes found
          (subst (λ n. AreLongest n found (drop taken bytes)) (omega arith) h),
    )
longest-unique place zero (byte ∷ bytes) found h =
    let here : place + zero ≡ place = omega arith in
    let now = subst (λ n. AreLongest n found (byte ∷ bytes)) here h in
    from_byte (λ all. found ≡ all) place byte bytes (at_comment found now)
    (λ b. longest-unique _ zero bytes found (subst (AreLongest (place + 1 + zero) found) (sym (nothing-dropped bytes))
    (subst (λ n. AreLongest n found bytes) (omega arith) (blank-longest place found byte bytes b now))))
    (at_token found now (longest-unique _ _ bytes))
  where
    at_comment : (found : List Token) → AreLongest place found (byte ∷ bytes) → begins_comment byte ≡ true → found ≡ []
    at_comment [] k c = refl
    at_comment _ k c = grind arith

    at_token : (found : List Token) → AreLongest place found (byte ∷ bytes) → ((more : List Token)
        → AreLongest (place + 1 + ((token_at (byte ∷ bytes)).size - 1)) more (drop ((token_at (byte ∷ bytes)).size - 1) bytes)
        → more ≡ tokens_from (place + 1) ((token_at (byte ∷ bytes)).size - 1) bytes) → begins_comment byte ≡ false →
        is_blank byte ≡ false → found ≡ taken_tokens place byte bytes
    at_token [] k later c b = grind arith
    at_token (token ∷ more) k later c b = unique-token place byte bytes token more (grind (arith, b, k)) (later more)
longest-unique place _ [] [] h = refl

pub tokens-unique : LongestAreTokens
tokens-unique line found h = longest-unique 0 0 line found
    (subst (λ rest. AreLongest 0 found rest) (sym (nothing-dropped line)) h)
