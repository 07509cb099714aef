-- Items of a part of a list that are kept: they come first there.
use Rattle.std.proofs.Common.{◌≡◌, refl, sym, ap, ◌∙◌, ℕ, zero, suc, ◌+◌, ◌-◌, ◌≤◌, ◌<◌, List, [], ◌∷◌, ◌++◌, length}
use Rattle.std.proofs.Common.{arith, take, drop, get_or, Bool, true, false, cond}
use Rattle.std.proofs.{Math.Seq.take-suc, lemmas.List.{get_or-drop, length-drop, append-nil, Elements.filter-append}}
use Rattle.std.specs.{List.SwappedAt, Prelude.{filter, slice_range}}
use Rattle.mpslp_builder_parts.proofs.GroupLemmas.{alike}

pub take_alike : {X : Type 0} (n : ℕ) (xs ys : List X) → length xs ≡ length ys →
    ((r : ℕ) (d : X) → r < n → get_or xs r d ≡ get_or ys r d) → take n xs ≡ take n ys
take_alike zero xs ys len same = refl
take_alike (suc n) [] [] len same = refl
take_alike (suc n) [] (y ∷ ys) len same = absurd (omega (arith, len))
take_alike (suc n) (x ∷ xs) [] len same = absurd (omega (arith, len))
take_alike (suc n) (x ∷ xs) (y ∷ ys) len same =
    λ i. same zero x (omega arith) i ∷ take_alike n xs ys (omega (arith, len))
    (λ r d below. same (suc r) d (omega (arith, below))) i

pub drop_alike : {X : Type 0} (n : ℕ) (xs ys : List X) → length xs ≡ length ys →
    ((r : ℕ) (d : X) → n ≤ r → get_or xs r d ≡ get_or ys r d) → drop n xs ≡ drop n ys
drop_alike zero xs ys len same = alike xs ys len (λ r d below. same r d (omega arith))
drop_alike (suc n) [] [] len same = refl
drop_alike (suc n) [] (y ∷ ys) len same = absurd (omega (arith, len))
drop_alike (suc n) (x ∷ xs) [] len same = absurd (omega (arith, len))
drop_alike (suc n) (x ∷ xs) (y ∷ ys) len same =
    drop_alike n xs ys (omega (arith, len)) (λ r d over. same (suc r) d (omega (arith, over)))

slice_alike : {X : Type 0} (start end : ℕ) (xs ys : List X) → start ≤ end → end ≤ length xs → length xs ≡ length ys
    → ((r : ℕ) (d : X) → r < end → get_or xs r d ≡ get_or ys r d) → slice_range xs start end ≡ slice_range ys start end
slice_alike start end xs ys order room len same =
    let first = length-drop start xs in
    let second = length-drop start ys in
    take_alike (end - start) (drop start xs) (drop start ys) (omega (arith, first, second, len))
    (λ r d below. get_or-drop start xs r d ∙ same (start + r) d (omega (arith, below)) ∙ sym (get_or-drop start ys r d))

-- one more item of a part
pub slice_push : {X : Type 0} (xs : List X) (start n : ℕ) (d : X) → start ≤ n → n < length xs
    → slice_range xs start (suc n) ≡ slice_range xs start n ++ get_or xs n d ∷ []
slice_push xs start n d order below =
    let left = length-drop start xs in
    let one : suc n - start ≡ suc (n - start) = omega (arith, order) in
    let whole : start + (n - start) ≡ n = omega (arith, order) in
    ap (λ m. take m (drop start xs)) one ∙ take-suc (drop start xs) (n - start) d (omega (arith, order, below, left))
    ∙ ap (λ x. take (n - start) (drop start xs) ++ x ∷ []) (get_or-drop start xs (n - start) d ∙ ap (λ m. get_or xs m d) whole)

slice_none : {X : Type 0} (xs : List X) (n : ℕ) → slice_range xs n n ≡ []
slice_none xs n = let none : n - n ≡ 0 = omega arith in ap (λ m. take m (drop n xs)) none

pub record AreKept {X : Type 0} (p : X → Bool) (all : List X) (start kept at : ℕ) (items : List X) : Type 0 where
  pub order : start ≤ kept
  pub upto : kept ≤ at
  pub len : length items ≡ length all
  pub before : (r : ℕ) (d : X) → r < start → get_or items r d ≡ get_or all r d
  pub after : (r : ℕ) (d : X) → at ≤ r → get_or items r d ≡ get_or all r d
  pub own : slice_range items start kept ≡ filter p (slice_range all start at)

pub none_kept : {X : Type 0} (p : X → Bool) (all : List X) (start : ℕ) → AreKept p all start start start all
none_kept p all start = record {
  order = omega arith;
  upto = omega arith;
  len = refl;
  before = λ r d below. refl;
  after = λ r d over. refl;
  own = slice_none all start ∙ ap (filter p) (sym (slice_none all start));
}

one_filtered : {X : Type 0} (p : X → Bool) (x : X) (b : Bool) → p x ≡ b → filter p (x ∷ []) ≡ cond b (x ∷ []) []
one_filtered p x b is = ap (λ c. cond c (x ∷ []) []) is

module _ {X : Type 0} (p : X → Bool) (all : List X) (start kept at : ℕ) (items : List X)
    (so_far : AreKept p all start kept at items) (below : at < length all) (x : X) (x_is : x ≡ get_or items at x) where
  there : x ≡ get_or all at x
  there = x_is ∙ so_far.after at x (omega arith)

  filtered : filter p (slice_range all start (suc at)) ≡ filter p (slice_range all start at) ++ filter p (x ∷ [])
  filtered = let order = so_far.order in
      let upto = so_far.upto in
      ap (filter p) (slice_push all start at x (omega (arith, order, upto)) below
      ∙ ap (λ y. slice_range all start at ++ y ∷ []) (sym there)) ∙ filter-append p (slice_range all start at) (x ∷ [])

  pub left_out : p x ≡ false → AreKept p all start kept (suc at) items
  left_out is = record {
    order = so_far.order;
    upto = let upto = so_far.upto in omega (arith, upto);
    len = so_far.len;
    before = so_far.before;
    after = λ r d over. so_far.after r d (omega (arith, over));
    own = so_far.own ∙ sym (filtered ∙ ap (λ ys. filter p (slice_range all start at) ++ ys) (one_filtered p x false is)
        ∙ append-nil (filter p (slice_range all start at)));
  }

  pub put_in : p x ≡ true → (new : List X) → length new ≡ length items → SwappedAt items new kept at →
      AreKept p all start (suc kept) (suc at) new
  put_in is new new_len swapped = record {
    order = let order = so_far.order in omega (arith, order);
    upto = let upto = so_far.upto in omega (arith, upto);
    len = new_len ∙ so_far.len;
    before = λ r d under. let order = so_far.order in
        let upto = so_far.upto in
        swapped.2 r d (omega (arith, under, order)) (omega (arith, under, order, upto)) ∙ so_far.before r d under;
    after = λ r d over. let upto = so_far.upto in
        swapped.2 r d (omega (arith, over, upto)) (omega (arith, over)) ∙ so_far.after r d (omega (arith, over));
    own = own_too;
  }
    where
      own_too : slice_range new start (suc kept) ≡ filter p (slice_range all start (suc at))
      own_too =
          let order = so_far.order in
          let upto = so_far.upto in
          let len = so_far.len in
          slice_push new start kept x order (omega (arith, upto, below, new_len, len))
          ∙ (λ i. slice_alike start kept new items order (omega (arith, upto, below, new_len, len)) new_len
          (λ r d under. swapped.2 r d (omega (arith, under)) (omega (arith, under, upto))) i ++ (swapped.0 x ∙ sym x_is) i ∷ [])
          ∙ ap (λ ys. ys ++ x ∷ []) so_far.own
          ∙ sym (filtered ∙ ap (λ ys. filter p (slice_range all start at) ++ ys) (one_filtered p x true is))
