-- A text is divided into fields from its start.
use Rattle.std.proofs.Common.{Bool, Bor, List, [], ap, append_assoc, arith, drop, false, length, map, refl, subst, suc}
use Rattle.std.proofs.Common.{sym, take, true, ℕ, ◌++◌, ◌+◌}
use Rattle.std.proofs.{Common.{◌-◌, ◌<◌, ◌∙◌, ◌∷◌, ◌≡◌, ◌≤◌}, lemmas.{Bool.{lt-ltb, Decides.nat_tests}}}
use Rattle.std.proofs.lemmas.List.{map-append, Sums.{position_or_len_is, prefix_len-le-length}}
use Rattle.std.specs.{List.{position, position_or_len, slice_split}, Prelude.{None, codes, filter, nat_lt, not, slice_index}}
use Rattle.bstr.specs.Bytes.{is_in}
use Rattle.mpslp_mps_fields.specs.Line.{Fields, fields, is_blank}

abbrev has_bytes : List ℕ → Bool
has_bytes run = nat_lt 0 (length run)

abbrev pub is_solid : ℕ → Bool
is_solid byte = not (is_blank byte)

-- the first part, and the fields after it
abbrev Front : List ℕ → Type 0
Front w =
    (more : Fields) × (slice_split is_blank w ≡ take (position_or_len is_blank w) w ∷ more)
    × (filter has_bytes more ≡ fields (drop (position_or_len is_blank w) w))

take-next : (n b : ℕ) (w : List ℕ) → take (1 + n) (b ∷ w) ≡ b ∷ take n w
take-next n b w = let e : 1 + n ≡ suc n = omega arith in rw e refl

drop-next : (n b : ℕ) (w : List ℕ) → drop (1 + n) (b ∷ w) ≡ drop n w
drop-next n b w = let e : 1 + n ≡ suc n = omega arith in rw e refl

front : (w : List ℕ) → Front w
front [] = ([], refl, refl)
front (b ∷ w) = by _ refl (front w)
  where
    by : (x : Bool) → is_blank b ≡ x → Front w → Front (b ∷ w)
    by true h f = (slice_split is_blank w, rw h refl, rw (h, h) refl)
    by false h f =
        (f.0, rw (h, f.1) (ap (λ run. run ∷ f.0) (sym (take-next _ b w))), rw h (f.2 ∙ ap fields (sym (drop-next _ b w))))

-- nothing, or a byte other than a space or tab
abbrev pub BeginsSolid : List ℕ → Type 0
BeginsSolid [] = Unit {0}
BeginsSolid (b ∷ _) = is_blank b ≡ false

pub solid-after_blanks : (w : List ℕ) → BeginsSolid (drop (position_or_len is_solid w) w)
solid-after_blanks [] = tt
solid-after_blanks (b ∷ w) = grind (arith, drop-next, solid-after_blanks w)

pub fields-after_blanks : (w : List ℕ) → fields (drop (position_or_len is_solid w) w) ≡ fields w
fields-after_blanks [] = refl
fields-after_blanks (b ∷ w) = grind (arith, drop-next, fields-after_blanks w)

keep : (run : List ℕ) (more : Fields) → 0 < length run → filter has_bytes (run ∷ more) ≡ run ∷ filter has_bytes more
keep run more h = let e = lt-ltb 0 _ h in rw e refl

some-byte : (b : ℕ) (w : List ℕ) → is_blank b ≡ false → 0 < length (take (position_or_len is_blank (b ∷ w)) (b ∷ w))
some-byte b w h = rw (h, take-next (position_or_len is_blank w) b w) (omega arith)

-- a text that begins with a field is that field and the rest
pub fields-cut : (w : List ℕ) → BeginsSolid w → (w ≡ [] → ⊥)
    → fields w ≡ take (position_or_len is_blank w) w ∷ fields (drop (position_or_len is_blank w) w)
fields-cut [] h some = absurd (some refl)
fields-cut (b ∷ w) h some =
    let f = front (b ∷ w) in
    let run = take (position_or_len is_blank (b ∷ w)) (b ∷ w) in
    ap (filter has_bytes) f.1 ∙ keep run f.0 (some-byte b w h) ∙ ap (λ more. run ∷ more) f.2

-- ---- the steps of the code

-- the set that is searched for is that of blanks
in-blanks : (byte : ℕ) → is_in (codes " \t") byte ≡ is_blank byte
unfolding is_in
in-blanks = grind arith

-- no byte before this place passes the test
abbrev NonePasses : (ℕ → Bool) → List ℕ → ℕ → Type 0
NonePasses test text at = (k : ℕ) → 0 ≤ k → k < at → test (slice_index text k) ≡ true → ⊥

-- the first place whose byte passes one test is the first one of another test that is the same
first-place : (test p : ℕ → Bool) → ((byte : ℕ) → test byte ≡ p byte) → (text : List ℕ) (at : ℕ) → at < length text
    → NonePasses test text at → test (slice_index text at) ≡ true
    → at ≡ position_or_len p text
first-place = grind (arith, position_or_len_is)

no-place : (test p : ℕ → Bool) → ((byte : ℕ) → test byte ≡ p byte) → (text : List ℕ) → NonePasses test text (length text)
    → length text ≡ position_or_len p text
no-place test p same text none =
    sym (position_or_len_is p text _ 0 (omega arith) (λ k below. sym (same (slice_index text k))
    ∙ grind (arith, none k (omega arith) below))
    (λ within. absurd (omega (arith, within))))

pub first-blank : (text : List ℕ) (at : ℕ) → at < length text → NonePasses (is_in (codes " \t")) text at
    → is_in (codes " \t") (slice_index text at) ≡ true → at ≡ position_or_len is_blank text
first-blank = grind (arith, first-place, in-blanks)

pub no-blank : (text : List ℕ) → NonePasses (is_in (codes " \t")) text (length text) → length text ≡ position_or_len is_blank text
no-blank text none = no-place _ is_blank in-blanks text none

pub position-none : {X : Type 0} (p : X → Bool) (xs : List X) → position p xs ≡ None → length xs ≡ position_or_len p xs
position-none p xs h = grind (arith, prefix_len-le-length, nat_tests)

pub no-fields : (w from : List ℕ) → from ≡ drop (position_or_len is_solid w) w → length from ≡ 0 → fields w ≡ []
no-fields w [] e h = sym (fields-after_blanks w) ∙ ap fields (sym e)
no-fields w (b ∷ from) e h = absurd (omega arith)

pub next-field : (w from field after : List ℕ) → from ≡ drop (position_or_len is_solid w) w → (length from ≡ 0 → ⊥)
    → field ≡ take (position_or_len is_blank from) from → after ≡ drop (position_or_len is_blank from) from
    → fields w ≡ field ∷ fields after
next-field w from field after e some front back =
    sym (fields-after_blanks w) ∙ ap fields (sym e)
    ∙ fields-cut from (subst BeginsSolid (sym e) (solid-after_blanks w)) (λ none. some (ap length none))
    ∙ (λ i. sym front i ∷ fields (sym back i))

-- one more field
pub front-more : (n : ℕ) (all : Fields) (before now : List (Bor (List ℕ))) (field : Bor (List ℕ)) (rest after : Fields) → n < 6
    → now ≡ before ++ field ∷ [] → rest ≡ field.now ∷ after → map (λ f. f.now) before ++ take (6 - n) rest ≡ all
    → map (λ f. f.now) now ++ take (6 - (n + 1)) after ≡ all
front-more n all before now field rest after h p q e =
    let left : 6 - n ≡ suc (6 - (n + 1)) = omega arith in
    ap (λ found. map (λ f. f.now) found ++ take (6 - (n + 1)) after) p
    ∙ ap (λ found. found ++ take (6 - (n + 1)) after) (map-append (λ f. f.now) before (field ∷ []))
    ∙ append_assoc _ (field.now ∷ []) _
    ∙ ap (λ (more : Fields). map (λ f. f.now) before ++ more) (sym (rw (q, left) refl))
    ∙ e
