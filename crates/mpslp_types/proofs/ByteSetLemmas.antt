-- Bytes that are found many at a time: parts of a text that are all of it, look-ups in tables of 16, and sets.
use Rattle.std.proofs.Common.{Bool, Fits, List, [], ap, arith, bit_and, cond, drop, eqb, eqb-true, false, get_or, length, length-append}
use Rattle.std.proofs.Common.{map, not, refl, suc, sym, take, true, w8, zero, ℕ, ◌%◌, ◌++◌, ◌+◌, ◌-◌, ◌/◌, ◌<◌, ◌^◌, ◌∙◌, ◌∷◌, ◌≡◌, ◌≤◌}
use Rattle.std.proofs.lemmas.List.{drop-drop, ext_get_or, get_or-map, get_or_past, length-drop, length-map, length-take-le}
use Rattle.std.proofs.lemmas.{List.{take-append-drop, take_all, Folds.{list_all-append, list_all-map}}, Nat.and_le_r}
use Rattle.std.proofs.lemmas.Simd.{Each1-all, Each1-get_or, Each1-weaker, Each1-zip2, Each2-splat, SwzOk, SwzOk-from_below, bitmask_splat}
use Rattle.std.proofs.lemmas.Simd.{get_or-swz_l_below, length-chunk, length-swz_l, length-zip2, pick_l_whole, swz_l, zip2-map, zip2_splat}
use Rattle.std.proofs.Math.Seq.{take-add}
use Rattle.std.specs.{Cmp.second_so, List.{list_all, range_with_len}, Prelude.◌||◌}
use Rattle.std.specs.Simd.Lanes.{Each1, chunk, mask_l, pick_l, top, zip2}
use lib.ListN.{replicate}
use Rattle.mpslp_decimal.proofs.TableLemmas.{holds-at, holds_below}
use Rattle.mpslp_types.proofs.EachLemmas.{imp_all}
use Rattle.mpslp_types.specs.{ByteSets.is_in, declared.names.byte_sets.ByteSet.ByteSet}

-- ---- parts of a text

all-dropped : {X : Type 0} (p : X → Bool) (n : ℕ) (xs : List X) → list_all p xs ≡ true → list_all p (drop n xs) ≡ true
all-dropped p zero xs h = h
all-dropped p (suc n) [] h = refl
all-dropped p (suc n) (x ∷ xs) h = all-dropped p n xs (second_so (p x) (list_all p xs) h)

all-joined : {X : Type 0} (p : X → Bool) (xs ys : List X) → list_all p xs ≡ true → list_all p ys ≡ true →
    list_all p (xs ++ ys) ≡ true
all-joined = grind (arith, list_all-append)

-- the bytes before a place, and the last ones from that place or an earlier one on
pub overlapping : {X : Type 0} (p : X → Bool) (text : List X) (at last n : ℕ) → last ≤ at → length text ≤ last + n
    → list_all p (take at text) ≡ true → list_all p (chunk last n text) ≡ true → list_all p text ≡ true
overlapping p text at last n =
    grind (
      arith,
      take-append-drop at text,
      drop-drop (at - last) last text,
      take_all n (drop last text),
      length-drop,
      all-joined,
      all-dropped p (at - last) (drop last text),
    )

-- the bytes before a place, and those from there on
pub further : {X : Type 0} (p : X → Bool) (text : List X) (at n : ℕ) → list_all p (take at text) ≡ true
    → list_all p (chunk at n text) ≡ true → list_all p (take (at + n) text) ≡ true
further = grind (arith, take-add, all-joined)

-- the first bytes and the last ones
pub both-ends : (test : ℕ → Bool) (text : List ℕ) (n : ℕ) → n ≤ length text → length text ≤ n + n
    → list_all test (pick_l 0 (take n text ++ chunk (length text - n) n text) (range_with_len 0 (n + n))) ≡ true
    → list_all test text ≡ true
both-ends test text n =
    grind (
      arith,
      list_all-append,
      pick_l_whole,
      length-append,
      length-take-le,
      length-chunk,
      overlapping test text n
          (length text - n) n,
    )

-- the same, and once more
pub both-ends-twice : (test : ℕ → Bool) (text : List ℕ) (n : ℕ) → n ≤ length text → length text ≤ n + n
    → (let ends = pick_l 0 (take n text ++ chunk (length text - n) n text) (range_with_len 0 (n + n)) in
    list_all test (ends ++ ends) ≡ true)
    → list_all test text ≡ true
both-ends-twice = grind (arith, list_all-append, both-ends)

-- ---- look-ups in a table of 16

module _ (op : ℕ → ℕ → ℕ) (v : List ℕ) (y : ℕ) (long : length v ≡ 16) (small : Each1 (λ a. op a y < 16) v) where
  places-fit : SwzOk w8 16 16 0 (zip2 op v (replicate 16 y))
  places-fit = SwzOk-from_below w8 16 1 16 0 (zip2 op v (replicate 16 y)) refl
      (omega (arith, length-zip2 op v (replicate 16 y) long))
      (Each1-zip2 op (λ j. j < 16) v (replicate 16 y) (Each2-splat (λ a b. op a b < 16) v 16 y small))

  looked-up : (table : List ℕ) → swz_l w8 16 table 0 (zip2 op v (replicate 16 y)) ≡ map (λ a. get_or table (op a y) 0) v
  looked-up table =
      let mapped : zip2 op v (replicate 16 y) ≡ map (λ a. op a y) v = zip2_splat op v 16 y long in
      let below = get_or-swz_l_below w8 16 table 0 (zip2 op v (replicate 16 y)) in
      ext_get_or 0 _ _ (grind (arith, length-swz_l, length-map, mapped))
      (λ i h. (grind (arith, length-swz_l, length-map, mapped, get_or-map, below i, Each1-get_or (λ a. op a y < 16) v i 0)))

-- no lane passes a test
none-passes : {X : Type 0} (p : X → Bool) (xs : List X) → mask_l (map p xs) ≡ 0 → list_all (λ x. not (p x)) xs ≡ true
none-passes p [] h = refl
none-passes p (x ∷ xs) h = grind (arith, none-passes p xs)

abbrev pub down : ℕ → ℕ → ℕ
down a b = a / 2 ^ b

module _ (set : ByteSet) (v : List ℕ) (long : length v ≡ 16) (fits : Each1 (Fits w8) v) where
  low-small : Each1 (λ a. bit_and a 15 < 16) v
  low-small = Each1-all (λ a. bit_and a 15 < 16) (λ a. omega (arith, and_le_r a 15)) v

  high-small : Each1 (λ a. down a 4 < 16) v
  high-small = Each1-weaker (Fits w8) (λ a. down a 4 < 16) (λ a h. omega (arith, h.fits)) v fits

  pub low-places : SwzOk w8 16 16 0 (zip2 bit_and v (replicate 16 15))
  low-places = places-fit bit_and v 15 long low-small

  pub high-places : SwzOk w8 16 16 0 (zip2 down v (replicate 16 4))
  high-places = places-fit down v 4 long high-small

  abbrev common : ℕ → ℕ
  common a = bit_and (get_or set.low (bit_and a 15) 0) (get_or set.high (down a 4) 0)

  abbrev pub lanes : List ℕ
  lanes = zip2 bit_and (swz_l w8 16 set.low 0 (zip2 bit_and v (replicate 16 15)))
      (swz_l w8 16 set.high 0 (zip2 down v (replicate 16 4)))

  lanes-are : lanes ≡ map common v
  lanes-are =
      (λ i. zip2 bit_and (looked-up bit_and v 15 long low-small set.low i) (looked-up down v 4 long high-small set.high i))
      ∙ zip2-map bit_and _ _ v

  pub in-lanes : eqb (mask_l (map (top 7) (zip2 (λ a b. cond (eqb a b) 255 0) lanes (replicate 16 0))) % 2 ^ 64) 0 ≡ true
      → list_all (is_in set) v ≡ true
  in-lanes h =
      let some : length lanes ≡ 16 = ap length lanes-are ∙ length-map v common ∙ long in
      let none : mask_l (map (λ x. eqb x 0) lanes) ≡ 0 = sym (bitmask_splat w8 eqb lanes 16 0 some (omega arith))
      ∙ eqb-true _ _ h in
      sym (list_all-map (λ x. not (eqb x 0)) common v)
      ∙ none-passes (λ x. eqb x 0) (map common v) (sym (ap (λ xs. mask_l (map (λ x. eqb x 0) xs)) lanes-are) ∙ none)

-- ---- sets

-- all bytes of a set pass a test, which is computed
pub members-pass : (set : ByteSet) (test : ℕ → Bool) → length set.high ≡ 16
    → holds_below (λ byte. not (is_in set byte) || test byte) 256 ≡ true
    → (text : List ℕ) → list_all (is_in set) text ≡ true → list_all test text ≡ true
members-pass set test long each text = imp_all (is_in set) test text (λ byte member.
    grind (arith, outside byte, holds-at (λ b. not (is_in set b) || test b) 256 each byte))
  where
    outside : (byte : ℕ) → 256 ≤ byte → is_in set byte ≡ false
    outside = grind (arith, get_or_past, and_le_r)
