-- The longest token at a position, by its first bytes.
use Rattle.std.proofs.Common.{Bool, List, [], ap, arith, cond, drop, false, get_or, length, refl, subst, suc, sym, take, true, zero, ℕ, ◌+◌}
use Rattle.std.{proofs.{Common.{◌-◌, ◌<◌, ◌∙◌, ◌∷◌, ◌≡◌, ◌≤◌}, lemmas.Bool.eqb-true}, specs.{List.{list_all, prefix_len}, Prelude.None}}
use Rattle.std.specs.Prelude.{Some, ◌&&◌, ◌==◌, ◌||◌}
use Rattle.mpslp_decimal.specs.Literal.{is_digit}
use Rattle.mpslp_lp_tokens.{proofs.{NameTokens.{begins-no_number, one_less}, NumberRun.number-longest}, specs.Scan.IsLongestFront}
use Rattle.mpslp_lp_tokens.specs.{Scan.pair_operator, Token.{Front, begins_word, continues_word, is_number, is_word, kind_of}}
use Rattle.mpslp_lp_tokens.specs.{Token.{longest_within, operator_kind, token_at}, declared.tokens.TokenKind.TokenKind}
use Rattle.mpslp_lp_tokens.specs.declared.tokens.TokenKind.TheVariants.{Number, Plus, Unknown, Word}

-- ---- the longest

abbrev None-beyond : List ℕ → ℕ → Type 0
None-beyond bytes size = (n : ℕ) → size < n → n ≤ length bytes → kind_of (take n bytes) ≡ None

within-found : (most : ℕ) (bytes : List ℕ) (kind : TokenKind) (size : ℕ) → most ≤ length bytes → 0 < size → size ≤ most
    → kind_of (take size bytes) ≡ Some kind → None-beyond bytes size
    → longest_within most bytes ≡ Some (record { kind = kind; size = size })
within-found zero bytes kind size m some w k beyond = grind arith
within-found (suc most) bytes kind size m some w k beyond = by _ refl (within-found most bytes kind size (omega (arith, m)) some)
  where
    by : (b : Bool) → (size == suc most) ≡ b
        → (size ≤ most → kind_of (take size bytes) ≡ Some kind → None-beyond bytes size
        → longest_within most bytes ≡ Some (record { kind = kind; size = size }))
        → longest_within (suc most) bytes ≡ Some (record { kind = kind; size = size })
    by true e later = grind (arith, eqb-true)
    by false e later = one_less (λ o. o ≡ Some (record { kind = kind; size = size })) most bytes
        (λ found f. grind (arith, beyond (suc most), m, w, e)) (λ _. later (grind (arith, e, w)) k beyond)

within-none : (most : ℕ) (bytes : List ℕ) → most ≤ length bytes → None-beyond bytes 0 → longest_within most bytes ≡ None
within-none zero bytes m beyond = refl
within-none (suc most) bytes m beyond =
    one_less (λ o. o ≡ None) most bytes (λ kind k. grind (arith, beyond (suc most) (omega arith) m))
    (λ _. within-none most bytes (omega (arith, m)) beyond)

pub found-at : (bytes : List ℕ) (kind : TokenKind) (size : ℕ) → 0 < size → size ≤ length bytes →
    kind_of (take size bytes) ≡ Some kind → None-beyond bytes size → token_at bytes ≡ record { kind = kind; size = size }
found-at bytes kind size some w k beyond =
    ap (λ o. elim o as (λ _. Front) [ Some front ↦ front | None ↦ record { kind = Unknown; size = 1 } ])
    (within-found _ bytes kind size (omega arith) some w k beyond)

pub none-at : (bytes : List ℕ) → None-beyond bytes 0 → token_at bytes ≡ record { kind = Unknown; size = 1 }
none-at = grind (arith, within-none)

-- ---- operators

-- no operator of two bytes or more begins with a byte that passes such a test
no-operator : (p : ℕ → Bool) (b : ℕ) (bs : List ℕ) → p b ≡ true → p 60 ≡ false → p 61 ≡ false → p 62 ≡ false →
    p 58 ≡ false → p 45 ≡ false → (n : ℕ) → 1 < n → n ≤ length (b ∷ bs) → operator_kind (take n (b ∷ bs)) ≡ None
no-operator p b bs y l e g c m (suc zero) h w = absurd (omega (arith, h))
no-operator p b _ y l e g c m _ h w = grind arith

-- ---- words

all-front : (p : ℕ → Bool) (xs : List ℕ) → list_all p (take (prefix_len p xs) xs) ≡ true
all-front p [] = refl
all-front p (x ∷ xs) = by (p x) refl (all-front p xs)
  where
    by : (b : Bool) → p x ≡ b → list_all p (take (prefix_len p xs) xs) ≡ true
        → list_all p (take (cond b (1 + prefix_len p xs) 0) (x ∷ xs)) ≡ true
    by = grind arith

not-beyond : (p : ℕ → Bool) (xs : List ℕ) (n : ℕ) → prefix_len p xs < n → n ≤ length xs → list_all p (take n xs) ≡ false
not-beyond p (x ∷ xs) (suc n) h w = grind (arith, not-beyond p xs n)
not-beyond p _ _ h w = grind arith

first-word : (b : ℕ) (bs : List ℕ) → begins_word b ≡ true → is_word (b ∷ bs) ≡ list_all continues_word bs
first-word b bs h = ap (λ x. x && list_all continues_word bs) h

pub word-at : (b : ℕ) (bs : List ℕ) → begins_word b ≡ true
    → token_at (b ∷ bs) ≡ record { kind = Word; size = suc (prefix_len continues_word bs) }
word-at b bs h =
    found-at (b ∷ bs) Word _ (omega arith) (omega (arith, prefix_within continues_word bs))
    (grind (arith, (first-word b (take (prefix_len continues_word bs) bs) h ∙ all-front _ bs)))
    beyond
  where
    prefix_within : (p : ℕ → Bool) (xs : List ℕ) → prefix_len p xs ≤ length xs
    prefix_within p [] = omega arith
    prefix_within p (x ∷ xs) = grind (arith, prefix_within p xs)

    beyond : None-beyond (b ∷ bs) (suc (prefix_len continues_word bs))
    beyond zero k w = grind arith
    beyond (suc n) k w =
        grind (
          arith,
          (first-word b (take n bs) h ∙ not-beyond _ bs n (omega (arith, k)) (omega (arith, w))),
          begins-no_number b h,
        ) ∙ no-operator begins_word b bs h refl refl refl refl refl (suc n) (omega (arith, k)) w

-- ---- numbers

abbrev begins_number : ℕ → Bool
begins_number b = is_digit b || b == 46

begins-number : (b : ℕ) (bs : List ℕ) → is_number (b ∷ bs) ≡ true → begins_number b ≡ true
begins-number = grind arith

pub number-at : (b : ℕ) (bs : List ℕ) (size : ℕ) → begins_word b ≡ false → 0 < size → IsLongestFront is_number (b ∷ bs) size
    → token_at (b ∷ bs) ≡ record { kind = Number; size = size }
number-at b bs zero unworded some r = grind arith
number-at b bs (suc size) unworded some r =
    found-at (b ∷ bs) Number _ (omega arith) r.within (grind (arith, r.front (omega arith))) beyond
  where
    beyond : None-beyond (b ∷ bs) (suc size)
    beyond zero k w = grind arith
    beyond (suc n) k w =
        grind (arith, r.longest (suc n) k w)
        ∙ no-operator begins_number b bs (begins-number b (take size bs) (r.front (omega arith))) refl refl refl refl refl (suc n)
        (omega (arith, k)) w

-- ---- operators, if neither a word nor a number begins

kind-operator : (b : ℕ) (bs : List ℕ) → begins_word b ≡ false → IsLongestFront is_number (b ∷ bs) 0 → (n : ℕ) → 0 < n →
    n ≤ length (b ∷ bs) → kind_of (take n (b ∷ bs)) ≡ operator_kind (take n (b ∷ bs))
kind-operator b bs unworded r zero k w = grind arith
kind-operator b bs unworded r (suc n) k w = grind (arith, r.longest (suc n) k w)

-- no operator has three bytes
long-none : (b x : ℕ) (bs : List ℕ) (n : ℕ) → 2 < n → n ≤ length (b ∷ x ∷ bs) → operator_kind (take n (b ∷ x ∷ bs)) ≡ None
long-none b x (z ∷ bs) (suc (suc (suc n))) k w = refl
long-none b x _ _ k w = grind arith

-- what follows the first byte does not make an operator with it
abbrev pub NoPair : ℕ → List ℕ → Type 0
NoPair b [] = Unit {0}
NoPair b (x ∷ bs) = operator_kind (b ∷ x ∷ []) ≡ None

pub pair-at : (b x : ℕ) (bs : List ℕ) (kind : TokenKind) → begins_word b ≡ false → IsLongestFront is_number (b ∷ x ∷ bs) 0
    → operator_kind (b ∷ x ∷ []) ≡ Some kind → token_at (b ∷ x ∷ bs) ≡ record { kind = kind; size = 2 }
pair-at b x bs kind unworded r k =
    found-at _ kind 2 (omega arith) (omega arith) (kind-operator b (x ∷ bs) unworded r 2 (omega arith) (omega arith)
    ∙ ap (λ t. operator_kind (b ∷ x ∷ t)) (take_none bs) ∙ k)
    (λ n h w. kind-operator b (x ∷ bs) unworded r n (omega (arith, h)) w ∙ long-none b x bs n h w)
  where
    take_none : (xs : List ℕ) → take 0 xs ≡ []
    take_none = grind arith

beyond-one : (b : ℕ) (bs : List ℕ) → NoPair b bs → (n : ℕ) → 1 < n → n ≤ length (b ∷ bs) → operator_kind (take n (b ∷ bs)) ≡ None
beyond-one b bs p (suc zero) h w = absurd (omega (arith, h))
beyond-one b _ p _ h w = grind arith

take_one : (b : ℕ) (bs : List ℕ) → take 1 (b ∷ bs) ≡ b ∷ []
take_one = grind arith

pub byte-at : (b : ℕ) (bs : List ℕ) (kind : TokenKind) → begins_word b ≡ false → IsLongestFront is_number (b ∷ bs) 0 → NoPair b bs
    → operator_kind (b ∷ []) ≡ Some kind → token_at (b ∷ bs) ≡ record { kind = kind; size = 1 }
byte-at b bs kind unworded r p k =
    found-at (b ∷ bs) kind 1 (omega arith) (omega arith) (kind-operator b bs unworded r 1 (omega arith) (omega arith)
    ∙ ap operator_kind (take_one b bs) ∙ k) (λ n h w. kind-operator b bs unworded r n (omega (arith, h)) w
    ∙ beyond-one b bs p n h w)

pub unknown-at : (b : ℕ) (bs : List ℕ) → begins_word b ≡ false → IsLongestFront is_number (b ∷ bs) 0 → NoPair b bs
    → operator_kind (b ∷ []) ≡ None → token_at (b ∷ bs) ≡ record { kind = Unknown; size = 1 }
unknown-at b bs unworded r p k = none-at (b ∷ bs) beyond
  where
    beyond : None-beyond (b ∷ bs) 0
    beyond zero h w = grind arith
    beyond (suc zero) h w = kind-operator b bs unworded r 1 (omega arith) w ∙ ap operator_kind (take_one b bs) ∙ k
    beyond (suc (suc n)) h w = kind-operator b bs unworded r _ (omega arith) w ∙ beyond-one b bs p _ (omega arith) w

-- ---- The longest token at the start of a nonempty text, in the form that the code needs.

pub word-front : (t : List ℕ) (n : ℕ) → 0 < length t → begins_word (get_or t 0 0) ≡ true
    → n ≡ prefix_len continues_word (take (length t - 1) (drop 1 t)) → token_at t ≡ record { kind = Word; size = 1 + n }
word-front [] n some w e = grind arith
word-front (b ∷ bs) n some w e = word-at b bs w
    ∙ ap (λ k. record { kind = Word; size = k }) (size _ n (ap (prefix_len continues_word) (sym (after b bs)) ∙ sym e))
  where
    drop_none : (xs : List ℕ) → drop 0 xs ≡ xs
    drop_none = grind arith

    take_all : (xs : List ℕ) → take (length xs) xs ≡ xs
    take_all [] = refl
    take_all (x ∷ xs) = ap (λ t. x ∷ t) (take_all xs)

    less : (n : ℕ) → suc n - 1 ≡ n
    less n = omega arith

    after : (x : ℕ) (xs : List ℕ) → take (length (x ∷ xs) - 1) (drop 1 (x ∷ xs)) ≡ xs
    after x xs = (λ i. take (less (length xs) i) (drop_none xs i)) ∙ take_all xs

    size : (m k : ℕ) → m ≡ k → suc m ≡ 1 + k
    size m k h = omega (arith, h)

pub number-front : (t : List ℕ) (n : ℕ) → 0 < length t → begins_word (get_or t 0 0) ≡ false → 0 < n → IsLongestFront is_number t n
    → token_at t ≡ record { kind = Number; size = n }
number-front [] n some w h r = grind arith
number-front (b ∷ bs) n some w h r = number-at b bs n w h r

none_is : (t : List ℕ) (n : ℕ) → n ≤ 0 → IsLongestFront is_number t n → IsLongestFront is_number t 0
none_is t n h r = subst (λ k. IsLongestFront is_number t k) (omega (arith, h)) r

pub pair-front : (t : List ℕ) (n : ℕ) (kind : TokenKind) → 0 < length t → begins_word (get_or t 0 0) ≡ false → n ≤ 0
    → IsLongestFront is_number t n → pair_operator t ≡ Some kind → token_at t ≡ record { kind = kind; size = 2 }
pair-front (b ∷ x ∷ bs) n kind some w h r p = pair-at b x bs kind w (none_is _ n h r) p
pair-front _ n kind some w h r p = cc

pub byte-front : (t : List ℕ) (n : ℕ) (kind : TokenKind) → 0 < length t → begins_word (get_or t 0 0) ≡ false → n ≤ 0
    → IsLongestFront is_number t n → pair_operator t ≡ None
    → operator_kind (get_or t 0 0 ∷ []) ≡ Some kind → token_at t ≡ record { kind = kind; size = 1 }
byte-front [] n kind some w h r p k = grind arith
byte-front (b ∷ bs) n kind some w h r p k = byte-at b bs kind w (none_is (b ∷ bs) n h r) (grind (arith, p)) k

pub unknown-front : (t : List ℕ) (n : ℕ) → 0 < length t → begins_word (get_or t 0 0) ≡ false → n ≤ 0 →
    IsLongestFront is_number t n → pair_operator t ≡ None → operator_kind (get_or t 0 0 ∷ []) ≡ None →
    token_at t ≡ record { kind = Unknown; size = 1 }
unknown-front = grind (arith, unknown-at, none_is)

-- no number and no operator of two bytes begins with a plus
pub plus-front : (t : List ℕ) → 0 < length t → get_or t 0 0 ≡ 43 → token_at t ≡ record { kind = Plus; size = 1 }
plus-front [] some e = grind arith
plus-front (b ∷ bs) some e = subst (λ c. token_at (c ∷ bs) ≡ record { kind = Plus; size = 1 }) (sym e)
    (byte-at 43 bs Plus refl (number-longest _) (grind arith) refl)
