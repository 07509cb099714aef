-- Places that are found column by column, from the last coefficient of each on.
use Rattle.std.proofs.Common.{◌≡◌, refl, sym, ap, ◌∙◌, ℕ, zero, suc, ◌+◌, ◌≤◌, ◌<◌, List, [], ◌∷◌, length, arith, take}
use Rattle.std.proofs.Common.{set, slice_index, true, ◌⊎◌, inl, inr}
use Rattle.std.proofs.lemmas.Bool.{false≢true, cases_lt}
use Rattle.std.proofs.lemmas.List.{take_all, length-take-le, get_or-take, length-set, get_or-set_same, get_or-set_other}
use Rattle.std.specs.Ordering.{nat_cmp, eq_by_cmp}
use Rattle.mpslp_builder_parts.specs.Grouping.{last_place, times, times_below, group_place, AreChained, HaveNumbers, ArePlaced}
use Rattle.mpslp_builder_parts.specs.StoredColumns.{last_of}
use Rattle.mpslp_builder_parts.specs.declared.known_pairs.StoredColumn.{StoredColumn}
use Rattle.mpslp_model_core.proofs.CellLemmas.{number_tied}
use Rattle.mpslp_builder_parts.proofs.RunLemmas.{take-short}
use Rattle.mpslp_builder_parts.proofs.GroupLemmas.{tie_same, last_le, last_here, last_none, times_none, times_last, times_more, times_take}
use Rattle.mpslp_builder_parts.proofs.GroupLemmas.{below_all, below_le}

-- the coefficients of the columns from one on have places
pub record AreDone (earlier : List ℕ) (last : ℕ → ℕ) (count column next : ℕ) (places ends : List ℕ) : Type 0 where
  pub numbers : List ℕ
  pub chained : AreChained earlier last numbers
  pub few : length numbers ≤ 4294967295
  pub below : (i : ℕ) → i < length numbers → slice_index numbers i < count
  pub len : length places ≡ length numbers
  pub under : column ≤ count
  pub next_is : next ≡ times_below column numbers
  pub done : (i : ℕ) → i < length numbers → column ≤ slice_index numbers i → slice_index places i ≡ group_place numbers i
  pub left : (i : ℕ) → i < length numbers → slice_index numbers i < column → slice_index places i ≡ slice_index earlier i
  pub ends_len : length ends ≡ count
  pub end_of : (n : ℕ) → column ≤ n → n < count → slice_index ends n ≡ times_below (suc n) numbers

-- and so have those of the column before it from an index on
pub record IsPlacing (earlier : List ℕ) (last : ℕ → ℕ) (count column at next : ℕ) (places ends : List ℕ) : Type 0 where
  pub numbers : List ℕ
  pub chained : AreChained earlier last numbers
  pub few : length numbers ≤ 4294967295
  pub below : (i : ℕ) → i < length numbers → slice_index numbers i < count
  pub len : length places ≡ length numbers
  pub under : column < count
  pub upto : ℕ
  pub within : upto ≤ length numbers
  pub at_is : at ≡ last_place column (take upto numbers)
  pub next_is : next ≡ times_below column numbers + times column (take upto numbers)
  pub done : (i : ℕ) → i < length numbers → (column < slice_index numbers i) ⊎ ((slice_index numbers i ≡ column) × (upto ≤ i))
      → slice_index places i ≡ group_place numbers i
  pub left : (i : ℕ) → i < length numbers → (slice_index numbers i < column) ⊎ ((slice_index numbers i ≡ column) × (i < upto))
      → slice_index places i ≡ slice_index earlier i
  pub ends_len : length ends ≡ count
  pub end_of : (n : ℕ) → column ≤ n → n < count → slice_index ends n ≡ times_below (suc n) numbers

-- ---- before the first column

last_beyond : (es : List (List ℕ × StoredColumn)) (n : ℕ) → length es ≤ n → last_of es n ≡ 0
last_beyond [] n h = refl
last_beyond (e ∷ es) zero h = absurd (omega (arith, h))
last_beyond (e ∷ es) (suc n) h = last_beyond es n (omega (arith, h))

number_below : (earlier numbers : List ℕ) (es : List (List ℕ × StoredColumn)) → AreChained earlier (last_of es) numbers
    → (i : ℕ) → i < length numbers → slice_index numbers i < length es
number_below earlier numbers es chained i inside =
    by (cases_lt (slice_index numbers i) (length es)) (cases_lt i (last_place (slice_index numbers i) numbers))
  where
    n : ℕ
    n = slice_index numbers i

    by : (n < length es) ⊎ (length es ≤ n) → (i < last_place n numbers) ⊎ (last_place n numbers ≤ i) → n < length es
    by (inl less) _ = less
    by (inr more) (inl later) = let none = sym (chained.lasts n) ∙ last_beyond es n more in absurd (omega (arith, none, later))
    by (inr more) (inr before) = absurd (false≢true (sym (last_none n numbers i before inside) ∙ number_tied n n refl))

pub none_done : (earlier : List ℕ) (es : List (List ℕ × StoredColumn)) (next count : ℕ) (ends : List ℕ) →
    HaveNumbers earlier (last_of es) → next ≡ length earlier → next ≤ 4294967295 → count ≡ length es →
    length ends ≡ count → AreDone earlier (last_of es) (length es) count next earlier ends
none_done earlier es next count ends have next_is few count_is ends_len = record {
  numbers = numbers;
  chained = chained;
  few = omega (arith, len, next_is, few);
  below = below;
  len = sym len;
  under = omega (arith, count_is);
  next_is = next_is ∙ sym len ∙ sym (below_all (length es) numbers below) ∙ ap (λ n. times_below n numbers) (sym count_is);
  done = λ i inside over. let under = below i inside in absurd (omega (arith, under, over, count_is));
  left = λ i inside under. refl;
  ends_len = ends_len ∙ count_is;
  end_of = λ n over under. absurd (omega (arith, over, under, count_is));
}
  where
    numbers : List ℕ
    numbers = have.numbers

    chained : AreChained earlier (last_of es) numbers
    chained = have.chained

    len : length numbers ≡ length earlier
    len = chained.len

    below : (i : ℕ) → i < length numbers → slice_index numbers i < length es
    below = number_below earlier numbers es chained

pub done_few : (earlier : List ℕ) (last : ℕ → ℕ) (count column next : ℕ) (places ends : List ℕ) →
    AreDone earlier last count column next places ends → next ≤ 4294967295
done_few earlier last count column next places ends so_far =
    let is = so_far.next_is in
    let all = below_le column so_far.numbers in
    let few = so_far.few in omega (arith, is, all, few)

-- ---- a column

module _ (earlier : List ℕ) (last : ℕ → ℕ) (count column next : ℕ) (places ends : List ℕ) where
  -- its last coefficient
  pub begun : (before after : ℕ) → before ≡ suc column → AreDone earlier last count before next places ends → after ≡ last column
      → IsPlacing earlier last count column after next places (set ends column next)
  begun before after more so_far last_is = record {
    numbers = so_far.numbers;
    chained = so_far.chained;
    few = so_far.few;
    below = so_far.below;
    len = so_far.len;
    under = under;
    upto = length so_far.numbers;
    within = omega arith;
    at_is = last_is ∙ so_far.chained.lasts column ∙ ap (last_place column) (sym whole);
    next_is = so_far.next_is ∙ ap (λ n. times_below n so_far.numbers) more
        ∙ ap (λ ms. times_below column so_far.numbers + times column ms) (sym whole);
    done = placed;
    left = kept;
    ends_len = length-set ends column next ∙ so_far.ends_len;
    end_of = ends_at;
  }
    where
      under : column < count
      under = let room = so_far.under in omega (arith, room, more)

      whole : take (length so_far.numbers) so_far.numbers ≡ so_far.numbers
      whole = take_all (length so_far.numbers) so_far.numbers (omega arith)

      placed : (i : ℕ) → i < length so_far.numbers
          → (column < slice_index so_far.numbers i) ⊎ ((slice_index so_far.numbers i ≡ column) × (length so_far.numbers ≤ i))
          → slice_index places i ≡ group_place so_far.numbers i
      placed i inside (inl over) = so_far.done i inside (omega (arith, over, more))
      placed i inside (inr own) = absurd (omega (arith, inside, own.1))

      kept : (i : ℕ) → i < length so_far.numbers
          → (slice_index so_far.numbers i < column) ⊎ ((slice_index so_far.numbers i ≡ column) × (i < length so_far.numbers))
          → slice_index places i ≡ slice_index earlier i
      kept i inside (inl below) = so_far.left i inside (omega (arith, below, more))
      kept i inside (inr own) = let same = own.0 in so_far.left i inside (omega (arith, same, more))

      ends_at : (n : ℕ) → column ≤ n → n < count → slice_index (set ends column next) n ≡ times_below (suc n) so_far.numbers
      ends_at n over inside = by (cases_lt column n)
        where
          by : (column < n) ⊎ (n ≤ column) → slice_index (set ends column next) n ≡ times_below (suc n) so_far.numbers
          by (inl later) = get_or-set_other ends column n next 0 (omega (arith, later))
              ∙ so_far.end_of n (omega (arith, later, more)) inside
          by (inr same) =
              let here : n ≡ column = omega (arith, over, same) in
              let len = so_far.ends_len in
              ap (slice_index (set ends column next)) here ∙ get_or-set_same ends column next 0
              (omega (arith, under, len)) ∙ so_far.next_is ∙ ap (λ m. times_below m so_far.numbers) more
              ∙ ap (λ m. times_below (suc m) so_far.numbers) (sym here)

  -- no coefficient of it is left
  pub ended : (at : ℕ) → at ≡ 0 → IsPlacing earlier last count column at next places ends →
      AreDone earlier last count column next places ends
  ended at none_left so_far = record {
    numbers = so_far.numbers;
    chained = so_far.chained;
    few = so_far.few;
    below = so_far.below;
    len = so_far.len;
    under = let room = so_far.under in omega (arith, room);
    next_is = let none = times_none column (take so_far.upto so_far.numbers) (sym so_far.at_is ∙ none_left) in
        let is = so_far.next_is in omega (arith, is, none);
    done = λ i inside over. so_far.done i inside (own_or_later i inside over);
    left = λ i inside under. so_far.left i inside (inl under);
    ends_len = so_far.ends_len;
    end_of = so_far.end_of;
  }
    where
      own_or_later : (i : ℕ) → i < length so_far.numbers → column ≤ slice_index so_far.numbers i
          → (column < slice_index so_far.numbers i) ⊎ ((slice_index so_far.numbers i ≡ column) × (so_far.upto ≤ i))
      own_or_later i inside over = by (cases_lt column (slice_index so_far.numbers i)) (cases_lt i so_far.upto)
        where
          by : (column < slice_index so_far.numbers i) ⊎ (slice_index so_far.numbers i ≤ column) →
              (i < so_far.upto) ⊎ (so_far.upto ≤ i) →
              (column < slice_index so_far.numbers i) ⊎ ((slice_index so_far.numbers i ≡ column) × (so_far.upto ≤ i))
          by (inl later) _ = inl later
          by (inr same) (inr after) = inr (omega (arith, over, same), after)
          by (inr same) (inl before) =
              let here : column ≡ slice_index so_far.numbers i = omega (arith, over, same) in
              let within = so_far.within in
              let room = length-take-le so_far.upto so_far.numbers within in
              let at_is = so_far.at_is in
              absurd (false≢true (sym (last_none column (take so_far.upto so_far.numbers) i
              (omega (arith, at_is, none_left)) (omega (arith, before, room)))
              ∙ ap (eq_by_cmp nat_cmp column) (get_or-take so_far.upto so_far.numbers i 0 before ∙ sym here)
              ∙ number_tied column column refl))

  -- a coefficient of it
  module _ (at index : ℕ) (so_far : IsPlacing earlier last count column at next places ends) (step : at ≡ suc index) where
    first : last_place column (take so_far.upto so_far.numbers) ≡ suc index
    first = sym so_far.at_is ∙ step

    pub index_before : index < so_far.upto
    index_before =
        let room = length-take-le so_far.upto so_far.numbers so_far.within in
        let most = last_le column (take so_far.upto so_far.numbers) in
        let is = first in omega (arith, room, most, is)

    pub index_within : index < length places
    index_within = let before = index_before in
        let within = so_far.within in
        let len = so_far.len in omega (arith, before, within, len)

    inside : index < length so_far.numbers
    inside = let before = index_before in
        let within = so_far.within in omega (arith, before, within)

    tie : eq_by_cmp nat_cmp column (slice_index so_far.numbers index) ≡ true
    tie = ap (eq_by_cmp nat_cmp column) (sym (get_or-take so_far.upto so_far.numbers index 0 index_before))
        ∙ last_here column (take so_far.upto so_far.numbers) index first

    own : column ≡ slice_index so_far.numbers index
    own = tie_same column (slice_index so_far.numbers index) tie

    -- those before it, and itself
    ranks : times column (take so_far.upto so_far.numbers) ≡ suc (times column (take index so_far.numbers))
    ranks = sym (times_last column (take so_far.upto so_far.numbers))
        ∙ ap (λ n. times column (take n (take so_far.upto so_far.numbers))) first
        ∙ ap (times column) (take-short (suc index) so_far.upto so_far.numbers (let before = index_before in
        omega (arith, before))) ∙ times_more column so_far.numbers index inside tie

    pub some_left : 0 < next
    some_left = let is = so_far.next_is in
        let more = ranks in omega (arith, is, more)

    pub next_few : next ≤ 4294967295
    next_few =
        let is = so_far.next_is in
        let all = below_le (suc column) so_far.numbers in
        let part = times_take column so_far.numbers so_far.upto in
        let few = so_far.few in
        omega (arith, is, all, part, few)

    pub link_before : slice_index places index < at
    link_before =
        let is = so_far.left index inside (inr (sym own, index_before)) ∙ so_far.chained.links index inside in
        let room = length-take-le index so_far.numbers (let under = inside in omega (arith, under)) in
        let most = last_le (slice_index so_far.numbers index) (take index so_far.numbers) in
        omega (arith, is, room, most, step)

    pub stepped : (link place : ℕ) → link ≡ slice_index places index → place + 1 ≡ next
        → IsPlacing earlier last count column link place (set places index place) ends
    stepped link place link_is place_is = record {
      numbers = so_far.numbers;
      chained = so_far.chained;
      few = so_far.few;
      below = so_far.below;
      len = length-set places index place ∙ so_far.len;
      under = so_far.under;
      upto = index;
      within = let under = inside in omega (arith, under);
      at_is = link_is ∙ so_far.left index inside (inr (sym own, index_before)) ∙ so_far.chained.links index inside
          ∙ ap (λ n. last_place n (take index so_far.numbers)) (sym own);
      next_is = let is = so_far.next_is in
          let more = ranks in omega (arith, is, more, place_is);
      done = placed;
      left = kept;
      ends_len = so_far.ends_len;
      end_of = so_far.end_of;
    }
      where
        here : slice_index (set places index place) index ≡ group_place so_far.numbers index
        here =
            let is = so_far.next_is in
            let more = ranks in
            get_or-set_same places index place 0 index_within
            ∙ (let place_of : place ≡ times_below column so_far.numbers + times column (take index so_far.numbers) =
            omega (arith, is, more, place_is) in place_of)
            ∙ ap (λ n. times_below n so_far.numbers + times n (take index so_far.numbers)) own

        placed : (i : ℕ) → i < length so_far.numbers →
            (column < slice_index so_far.numbers i) ⊎ ((slice_index so_far.numbers i ≡ column) × (index ≤ i))
            → slice_index (set places index place) i ≡ group_place so_far.numbers i
        placed i below (inl over) =
            get_or-set_other places index i place 0 (λ same. let at = ap (slice_index so_far.numbers) same in
            let is = own in absurd (omega (arith, at, is, over)))
            ∙ so_far.done i below (inl over)
        placed i below (inr later) = by (cases_lt index i) (cases_lt i so_far.upto)
          where
            by : (index < i) ⊎ (i ≤ index) → (i < so_far.upto) ⊎ (so_far.upto ≤ i) →
                slice_index (set places index place) i ≡ group_place so_far.numbers i
            by (inr same) _ = let is : i ≡ index = (let from = later.1 in omega (arith, same, from)) in
                ap (slice_index (set places index place)) is ∙ here ∙ ap (group_place so_far.numbers) (sym is)
            by (inl after) (inr over) = get_or-set_other places index i place 0 (omega (arith, after))
                ∙ so_far.done i below (inr (later.0, over))
            by (inl after) (inl under) =
                let room = length-take-le so_far.upto so_far.numbers so_far.within in
                let at = first in
                absurd (false≢true (sym (last_none column (take so_far.upto so_far.numbers) i (omega (arith, at, after))
                (omega (arith, under, room))) ∙ ap (eq_by_cmp nat_cmp column)
                (get_or-take so_far.upto so_far.numbers i 0 under ∙ later.0) ∙ number_tied column column refl))

        kept : (i : ℕ) → i < length so_far.numbers →
            (slice_index so_far.numbers i < column) ⊎ ((slice_index so_far.numbers i ≡ column) × (i < index))
            → slice_index (set places index place) i ≡ slice_index earlier i
        kept i below (inl under) =
            get_or-set_other places index i place 0 (λ same. let at = ap (slice_index so_far.numbers) same in
            let is = own in absurd (omega (arith, at, is, under)))
            ∙ so_far.left i below (inl under)
        kept i below (inr before) = let under = before.1 in
            let last_one = index_before in
            get_or-set_other places index i place 0 (omega (arith, under))
            ∙ so_far.left i below (inr (before.0, omega (arith, under, last_one)))

-- ---- after the first column

pub all_done : (earlier : List ℕ) (last : ℕ → ℕ) (count column next : ℕ) (places ends : List ℕ) → column ≡ 0
    → AreDone earlier last count column next places ends → ArePlaced earlier last count places ends
all_done earlier last count column next places ends none_left so_far = record {
  numbers = so_far.numbers;
  chained = so_far.chained;
  below = so_far.below;
  len = so_far.len;
  each = λ i inside. so_far.done i inside (omega (arith, none_left));
  ends_len = so_far.ends_len;
  end_of = λ n inside. so_far.end_of n (omega (arith, none_left)) inside;
}
