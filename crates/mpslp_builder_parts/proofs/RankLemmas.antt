-- The numbers of rows before and after they are sorted.
use Rattle.std.proofs.Common.{IsPermutation, List, [], ap, arith, get_or, length, map, refl, suc, sym, zero, ℕ, ◌+◌, ◌<◌, ◌∙◌, ◌∷◌, ◌≡◌}
use Rattle.std.proofs.lemmas.List.{FromFn.{get_or-range_with_len, length-range_with_len}, Sorted.{All-permutation, Contains-permutation}}
use Rattle.std.proofs.lemmas.{List.Sorted.{IsPermutation-map, length_permutation}, Map.Keys.sorted_from_strictly_increasing}
use Rattle.std.specs.{Cmp.nat_cmp_total, FinMap.find, List.{Contains, cons_option, range_with_len}, Ordering.nat_cmp, Prelude.{None, Some}}
use Rattle.std.specs.Prelude.{slice_get, slice_index, ◌≢◌}
use Rattle.mpslp_model_core.{proofs.CellLemmas.{once-from_rising, once-permutation}, specs.Numbered.IsOnceBy}
use Rattle.mpslp_builder_parts.specs.Ordered.{entries_at}

-- ---- a list in which each number occurs once

abbrev marked : List ℕ → List (ℕ × Unit {0})
marked ns = map (λ n. (n, tt)) ns

keys-marked : (ns : List ℕ) → map (λ e. e.0) (marked ns) ≡ ns
keys-marked [] = refl
keys-marked (n ∷ ns) = ap (λ ns. n ∷ ns) (keys-marked ns)

not_later : (k : ℕ) (ns : List ℕ) (q : ℕ) → find nat_cmp k (marked ns) ≡ None → q < length ns → k ≡ get_or ns q 0 → ⊥
not_later k (n ∷ ns) (suc q) none h is = grind (arith, not_later k ns q)
not_later k _ _ none h is = grind arith

apart-once : (ns : List ℕ) → IsOnceBy nat_cmp (marked ns) → (p q : ℕ) → p < q → q < length ns → get_or ns p 0 ≢ get_or ns q 0
apart-once (n ∷ ns) once (suc p) (suc q) h l is = grind (arith, apart-once ns)
apart-once _ once _ _ h l is = grind (arith, not_later)

-- ---- an order of n indices

module _ (n : ℕ) (order : List ℕ) (p : IsPermutation (range_with_len 0 n) order) where
  pub order_length : length order ≡ n
  order_length = length_permutation _ order p ∙ length-range_with_len 0 n

  pub order_within : (k : ℕ) → k < length order → get_or order k 0 < n
  order_within k h =
      All-permutation (λ m. m < n) (range_with_len 0 n) order p
      (λ i d l. let here : i < n = omega (arith, l, length-range_with_len 0 n) in
      omega (arith, here, get_or-range_with_len 0 n i d here)) k 0 h

  pub order_apart : (i j : ℕ) → i < j → j < length order → get_or order i 0 ≢ get_or order j 0
  order_apart =
      apart-once order (once-permutation nat_cmp nat_cmp_total _ _ (IsPermutation-map (λ m. (m, tt)) (range_with_len 0 n) order p)
      (grind (
        arith,
        once-from_rising,
        keys-marked,
        sorted_from_strictly_increasing,
        length-range_with_len,
        get_or-range_with_len,
      )))

  pub order_reaches : (i : ℕ) → i < n → (k : ℕ) × (k < length order) × (get_or order k 0 ≡ i)
  order_reaches i h =
      let all = range_with_len 0 n in
      let there : Contains all i = (
        i,
        omega (arith, h, length-range_with_len 0 n),
        let is =
            get_or-range_with_len 0 n i i h in omega (arith, is),
      ) in
      let at = Contains-permutation all order i p there in
      (at.0, at.1, same_place order at.0 i at.1 at.2)
    where
      same_place : (ns : List ℕ) (k i : ℕ) → k < length ns → get_or ns k i ≡ i → get_or ns k 0 ≡ i
      same_place (m ∷ ns) (suc k) i l is = same_place ns k i (omega (arith, l)) is
      same_place _ _ i l is = grind arith

-- the final numbers, as `ranks_of` returns them
pub record AreRanks (order ranks : List ℕ) : Type 0 where
  pub objective : slice_index ranks 0 ≡ 0
  pub places : (p : ℕ) → p < length order → slice_index ranks (slice_index order p + 1) ≡ p + 1
  pub len : length ranks ≡ length order + 1

module _ (n : ℕ) (order ranks : List ℕ) (p : IsPermutation (range_with_len 0 n) order) (r : AreRanks order ranks) where
  -- the final number of a row, and its index in the order
  pub rank_at : (i : ℕ) → i < n → (k : ℕ) × (k < length order) × (get_or order k 0 ≡ i) × (get_or ranks (suc i) 0 ≡ suc k)
  rank_at i h =
      let at = order_reaches n order p i h in
      let place : get_or order at.0 0 + 1 ≡ suc i = omega (arith, at.2) in
      let next : at.0 + 1 ≡ suc at.0 = omega arith in
      (at.0, at.1, at.2, ap (λ m. get_or ranks m 0) (sym place) ∙ r.places at.0 at.1 ∙ next)

  pub ranks_length : length ranks ≡ n + 1
  ranks_length = omega (arith, r.len, order_length n order p)

  pub ranks_apart : (a b : ℕ) → a < length ranks → b < length ranks → slice_index ranks a ≡ slice_index ranks b → a ≡ b
  ranks_apart zero zero h l is = refl
  ranks_apart zero (suc j) h l is =
      let at = rank_at j (omega (arith, l, ranks_length)) in
      absurd (omega (arith, is, r.objective, at.3))
  ranks_apart (suc i) zero h l is =
      let at = rank_at i (omega (arith, h, ranks_length)) in
      absurd (omega (arith, is, r.objective, at.3))
  ranks_apart (suc i) (suc j) h l is =
      let a = rank_at i (omega (arith, h, ranks_length)) in
      let b = rank_at j (omega (arith, l, ranks_length)) in
      let same : a.0 ≡ b.0 = omega (arith, is, a.3, b.3) in
      let rows = sym a.2 ∙ ap (λ k. get_or order k 0) same ∙ b.2 in
      ap suc rows

-- ---- what is taken at an index

pub get-taken : {X : Type 0} (items : List X) (ns : List ℕ) (p : ℕ) → ((k : ℕ) → k < length ns → get_or ns k 0 < length items)
    → p < length ns → slice_get (entries_at items ns) p ≡ slice_get items (get_or ns p 0)
get-taken items [] p within h = absurd (omega (arith, h))
get-taken {X} items (n ∷ ns) zero within h =
    let first = some_at items n (within zero (omega arith)) in
    ap (λ o. slice_get (cons_option o (entries_at items ns)) zero) first.1 ∙ sym first.1
  where
    some_at : (items : List X) (n : ℕ) → n < length items → (x : X) × (slice_get items n ≡ Some x)
    some_at [] n l = grind arith
    some_at (x ∷ items) zero l = (x, refl)
    some_at (x ∷ items) (suc n) l = some_at items n (omega (arith, l))
get-taken {X} items (n ∷ ns) (suc p) within h =
    elim (slice_get items n) as (λ o. slice_get items n ≡ o → slice_get (cons_option o (entries_at items ns)) (suc p)
    ≡ slice_get items (get_or ns p 0)) [
      | None ↦ λ none. absurd (never items n (within zero (omega arith)) none)
      | Some x ↦ λ _. get-taken items ns p (λ k l. within (suc k) (omega (arith, l))) (omega (arith, h))
    ] refl
  where
    never : (items : List X) (n : ℕ) → n < length items → slice_get items n ≡ None → ⊥
    never (x ∷ items) (suc n) l is = never items n (omega (arith, l)) is
    never _ _ l is = grind arith

-- an item that is found has an index below the length
pub place_below : {X : Type 0} (items : List X) (n : ℕ) (x : X) → slice_get items n ≡ Some x → n < length items
place_below (y ∷ items) (suc n) x is = grind (arith, place_below items n x is)
place_below _ _ x is = grind arith

pub length-taken : {X : Type 0} (items : List X) (ns : List ℕ) (p : ℕ) → p < length (entries_at items ns) → p < length ns
length-taken items [] p h = h
length-taken items (n ∷ ns) zero h = omega arith
length-taken {X} items (n ∷ ns) (suc p) h = grind (arith, length-taken items ns (suc p), length-taken items ns p)
