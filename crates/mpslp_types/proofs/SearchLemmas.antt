-- Binary search in entries in the order of their keys: those less than a key come before those that are not.
use Rattle.std.proofs.Common.{List, [], ap, arith, cond, false, get_or, length, refl, suc, sym, true, ℕ, ◌+◌, ◌<◌, ◌∙◌, ◌∷◌, ◌≡◌, ◌≤◌}
use Rattle.std.proofs.lemmas.{Bool.{le-ltb, lt-ltb}, List.Sums.{fails_before_first, position_or_len_is}, Option.slice_get_past}
use Rattle.std.{proofs.lemmas.Option.slice_get_read, specs.{Cmp.{IsTotalOrder, second_so}, FinMap.{find, is_sorted, put}}}
use Rattle.std.specs.{FinMap.Entries.{below_all, is_sorted-put}, List.{position_or_len, Sorted.{IsPartitionPoint, IsPartitionedBy}}}
use Rattle.std.specs.{Option.option_map_or, Ordering.{is_eq, is_gt, is_le, is_lt, ordering_reverse}, Prelude.{None, Option, Some, position}}
use Rattle.std.specs.{Prelude.{slice_get, ◌-◌}, declared.cmp.Ordering.{Ordering, TheVariants.{Greater, Less}}}

-- ---- results of a comparison

pub less_from : (r : Ordering) → is_lt r ≡ true → r ≡ Less
less_from = grind arith

pub suc_of : (n : ℕ) → 1 + n ≡ suc n
suc_of n = omega arith

-- ---- the place of a key

module _ {K : Type 0} (R : K → K → Ordering) (o : IsTotalOrder R) where
  greater : (x y : K) → R x y ≡ Less → R y x ≡ Greater
  greater x y h = o.antisymm y x ∙ ap ordering_reverse h

module _ {K X : Type 0} (R : K → K → Ordering) where
  -- the value of an entry that has this key
  abbrev value_if : K → Option (K × X) → Option X
  value_if k None = None
  value_if k (Some e) = cond (is_eq (R k e.0)) (Some e.1) None

  -- each entry after the first of these is greater than it
  below_each : (x : K) (es : List (K × X)) (i : ℕ) (d : K × X) → below_all R x es ≡ true → i < length es →
      R x (get_or es i d).0 ≡ Less
  below_each x (e ∷ es) (suc i) d h in' = grind (arith, below_each x es i d)
  below_each x _ _ d h in' = grind arith

  module _ (o : IsTotalOrder R) where
    -- entries that are less than the key come before those that are not
    pub parted : (k : K) (es : List (K × X)) → is_sorted R es ≡ true → IsPartitionedBy (λ e. is_gt (R k e.0)) es
    parted k (e ∷ es) sorted (suc i) (suc j) d le in' above = grind (arith, parted k es)
    parted k _ sorted _ _ d le in' above = grind (arith, below_each)

    -- a key that is less than the first entry is not found
    none_below : (k x : K) (es : List (K × X)) → R k x ≡ Less → below_all R x es ≡ true → find R k es ≡ None
    none_below k x [] h below = refl
    none_below k x (e ∷ es) h below =
        grind (arith, less_from, none_below k x es h (second_so (is_lt (R x e.0)) (below_all R x es) below))

    -- what is found is at the place of the key, or nowhere
    find_at_key : (k : K) (es : List (K × X)) → is_sorted R es ≡ true
        → find R k es ≡ value_if k (slice_get es (position_or_len (λ e. is_le (R k e.0)) es))
    find_at_key k [] sorted = refl
    find_at_key k (e ∷ es) sorted =
        grind (arith, none_below, suc_of, find_at_key k es (second_so (below_all R e.0 es) (is_sorted R es) sorted))

    -- the entry at the place of the key decides
    pub found_here : (k : K) (es : List (K × X)) (i : ℕ) (e : K × X) → is_sorted R es ≡ true →
        i ≡ position_or_len (λ x. is_le (R k x.0)) es → i < length es → e ≡ get_or es i e →
        find R k es ≡ cond (is_eq (R k e.0)) (Some e.1) None
    found_here = grind (arith, find_at_key, slice_get_read)

    -- if the place of the key is the end, it is not found
    pub found_nowhere : (k : K) (es : List (K × X)) (i : ℕ) → is_sorted R es ≡ true →
        i ≡ position_or_len (λ x. is_le (R k x.0)) es → length es ≤ i → find R k es ≡ None
    found_nowhere = grind (arith, find_at_key, slice_get_past)

    -- the place of a key greater than the last of these is after all
    after_last : (k : K) (e : K × X) (es : List (K × X)) → is_sorted R (e ∷ es) ≡ true
        → option_map_or (λ last. is_gt (R k last.0)) (slice_get (e ∷ es) (length es)) true ≡ true
        → suc (length es) ≡ position_or_len (λ x. is_le (R k x.0)) (e ∷ es)
    after_last k e [] sorted above = grind arith
    after_last k e (f ∷ es) sorted above =
        grind (
          arith,
          less_from,
          suc_of,
          after_last k f es
              (second_so (below_all R e.0 (f ∷ es)) (is_sorted R (f ∷ es)) sorted) above,
        )

    -- the place of a key greater than the last entry is after all
    pub place_after : (k : K) (es : List (K × X)) → is_sorted R es ≡ true
        → option_map_or (λ last. is_gt (R k last.0)) (slice_get es (length es - 1)) true ≡ true
        → length es ≡ position_or_len (λ e. is_le (R k e.0)) es
    place_after k [] sorted above = refl
    place_after k (e ∷ es) sorted above = grind (arith, after_last)

  -- the number of the entry that has the key
  pub number_here : (k : K) (es : List (K × X)) (i : ℕ) (e : K × X) → i ≡ position_or_len (λ x. is_le (R k x.0)) es →
      i < length es → e ≡ get_or es i e → is_eq (R k e.0) ≡ true → position (λ x. is_eq (R k x.0)) es ≡ Some i
  number_here = grind (arith, position_or_len_is, fails_before_first, lt-ltb)

  -- what is not found has no number
  none_tied : (k : K) (es : List (K × X)) → find R k es ≡ None → position_or_len (λ x. is_eq (R k x.0)) es ≡ length es
  none_tied k [] h = refl
  none_tied k (e ∷ es) h = grind (arith, none_tied k es)

  pub number_nowhere : (k : K) (es : List (K × X)) → find R k es ≡ None → position (λ x. is_eq (R k x.0)) es ≡ None
  number_nowhere = grind (arith, none_tied, le-ltb)

  -- the place of the key is where the entries less than it end
  pub place_from_point : (k : K) (es : List (K × X)) (i : ℕ) → i ≤ length es
      → IsPartitionPoint (λ e. is_gt (R k e.0) ≡ true) (λ e. is_gt (R k e.0) ≡ false) es i →
      i ≡ position_or_len (λ e. is_le (R k e.0)) es
  place_from_point k [] i le point = omega arith
  place_from_point k (e ∷ es) i le point =
      sym (position_or_len_is (λ x. is_le (R k x.0)) (e ∷ es) i e le (λ j below. (grind (arith, point.0 j e (omega arith) below)))
      (λ inside. (grind (arith, point.1 i e (omega arith) inside))))

-- a test as a type and as an equation

-- `put` keeps the order
pub sorted-put : {K X : Type 0} (R : K → K → Ordering) (o : IsTotalOrder R) (k : K) (v : X) (es : List (K × X)) →
    is_sorted R es ≡ true → is_sorted R (put R k v es) ≡ true
sorted-put R o k v es h = grind (arith, is_sorted-put R o k v es (grind (arith, h)))
