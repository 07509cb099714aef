-- Items grouped by numbers.
use Rattle.std.proofs.Common.{◌≡◌, refl, sym, ap, subst, ◌∙◌, ℕ, zero, suc, ◌+◌, ◌-◌, ◌≤◌, ◌<◌, List, [], ◌∷◌, ◌++◌}
use Rattle.std.proofs.Common.{length, arith, take, drop, get_or, slice_index, Bool, true, false, cond, length-append}
use Rattle.std.proofs.Common.{◌⊎◌, inl, inr}
use Rattle.std.specs.{Ordering.{nat_cmp, eq_by_cmp}, Prelude.{reverse, slice_range}}
use Rattle.std.proofs.lemmas.List.{take_all, length-drop, length-take-le, get_or-take, get_or-drop, append-nil}
use Rattle.std.proofs.lemmas.Bool.{cases_order}
use Rattle.std.proofs.{Math.Seq.take-suc, lemmas.Bool.cases_lt, lemmas.List.{reverse-append, take-append-le}}
use Rattle.std.proofs.lemmas.Option.{slice_get-get_or}
use Rattle.mpslp_decimal.specs.Decimal.{Number, zero_number}
use Rattle.mpslp_model_core.proofs.CellLemmas.{number_tied}
use Rattle.mpslp_builder_parts.specs.CoefficientLog.{LogEntries, chain, IsLog}
use Rattle.mpslp_builder_parts.specs.Grouping.{place_after, last_place, times, times_below, items_of, group_place, AreChained, HaveNumbers}
use Rattle.mpslp_builder_parts.proofs.LogLemmas.{logged, index-more, index-last, not_tied, unchained}

-- ---- the last place of a number

pub last_le : (n : ℕ) (ms : List ℕ) → last_place n ms ≤ length ms
last_le n [] = omega arith
last_le n (m ∷ ms) = grind (arith, last_le n ms)

after_more : (here : Bool) (place : ℕ) (index : ℕ) → place_after here place ≡ suc (suc index) → place ≡ suc index
after_more = grind arith

pub last_here : (n : ℕ) (ms : List ℕ) (index : ℕ) → last_place n ms ≡ suc index → eq_by_cmp nat_cmp n (get_or ms index 0) ≡ true
last_here n [] index at = absurd (omega (arith, at))
last_here n (m ∷ ms) zero at = grind (arith, last_here n ms)
last_here n (m ∷ ms) (suc index) at = last_here n ms index (after_more _ _ index at)

pub last_none : (n : ℕ) (ms : List ℕ) (i : ℕ) → last_place n ms ≤ i → i < length ms → eq_by_cmp nat_cmp n (get_or ms i 0) ≡ false
last_none n [] i after below = absurd (omega (arith, below))
last_none n (m ∷ ms) zero after below = grind (arith)
last_none n (m ∷ ms) (suc i) after below =
    last_none n ms i (before (eq_by_cmp nat_cmp n m) (last_place n ms) i after) (omega (arith, below))
  where
    before : (here : Bool) (place i : ℕ) → place_after here place ≤ suc i → place ≤ i
    before here zero i h = omega arith
    before here (suc place) i h = omega (arith, h)

pub times_none : (n : ℕ) (ms : List ℕ) → last_place n ms ≡ 0 → times n ms ≡ 0
times_none n [] none = refl
times_none n (m ∷ ms) none = grind (arith, times_none n ms)

pub times_last : (n : ℕ) (ms : List ℕ) → times n (take (last_place n ms) ms) ≡ times n ms
times_last n [] = refl
times_last n (m ∷ ms) = grind (arith, times_last n ms, times_none n ms)

pub last_push : (n m : ℕ) (ms : List ℕ) →
    last_place n (ms ++ m ∷ []) ≡ cond (eq_by_cmp nat_cmp n m) (suc (length ms)) (last_place n ms)
last_push n m [] = grind arith
last_push n m (k ∷ ms) = grind (arith, last_push n m ms)

-- ---- how many are below a number

pub times_push : (n m : ℕ) (ms : List ℕ) → times n (ms ++ m ∷ []) ≡ cond (eq_by_cmp nat_cmp n m) (suc (times n ms)) (times n ms)
times_push n m [] = grind arith
times_push n m (k ∷ ms) = grind (arith, times_push n m ms)

pub times_more : (n : ℕ) (ms : List ℕ) (i : ℕ) → i < length ms → eq_by_cmp nat_cmp n (get_or ms i 0) ≡ true →
    times n (take (suc i) ms) ≡ suc (times n (take i ms))
times_more n [] i below here = absurd (omega (arith, below))
times_more n (m ∷ ms) zero below here = grind arith
times_more n (m ∷ ms) (suc i) below here = grind (arith, times_more n ms i (omega (arith, below)) here)

pub times_take : (n : ℕ) (ms : List ℕ) (i : ℕ) → times n (take i ms) ≤ times n ms
times_take n [] zero = omega arith
times_take n [] (suc i) = omega arith
times_take n (m ∷ ms) zero = omega arith
times_take n (m ∷ ms) (suc i) = grind (arith, times_take n ms i)

pub tie_same : (n m : ℕ) → eq_by_cmp nat_cmp n m ≡ true → n ≡ m
tie_same n m tie = grind (arith)

below_other : (n m : ℕ) (ms : List ℕ) → n ≤ m → times_below n (m ∷ ms) ≡ times_below n ms
below_other zero m ms h = refl
below_other (suc n) m ms h = grind (arith, below_other n m ms (omega (arith, h)))

below_own : (n m : ℕ) (ms : List ℕ) → m < n → times_below n (m ∷ ms) ≡ suc (times_below n ms)
below_own zero m ms h = absurd (omega (arith, h))
below_own (suc n) m ms h = grind (arith, below_own n m ms, below_other n m ms)

pub below_all : (n : ℕ) (ms : List ℕ) → ((i : ℕ) → i < length ms → get_or ms i 0 < n) → times_below n ms ≡ length ms
below_all zero [] all = refl
below_all (suc n) [] all = grind (arith, below_all n [] (λ i below. absurd (omega (arith, below))))
below_all n (m ∷ ms) all = below_own n m ms (all zero (omega arith))
    ∙ ap suc (below_all n ms (λ i below. all (suc i) (omega (arith, below))))

pub below_le : (n : ℕ) (ms : List ℕ) → times_below n ms ≤ length ms
below_le zero ms = omega arith
below_le (suc n) [] = let rest = below_le n [] in omega (arith, rest)
below_le n (m ∷ ms) = grind (arith, below_le n ms, below_other n m ms, below_own n m ms)

below_further : (d n : ℕ) (ms : List ℕ) → times_below n ms ≤ times_below (d + n) ms
below_further zero n ms = let same : n ≡ 0 + n = omega arith in
    subst (λ k. times_below n ms ≤ times_below k ms) same (omega arith)
below_further (suc d) n ms =
    let same : suc (d + n) ≡ suc d + n = omega arith in
    let more = below_further d n ms in
    subst (λ k. times_below n ms ≤ times_below k ms) same (omega (arith, more))

pub below_rise : (n m : ℕ) (ms : List ℕ) → n ≤ m → times_below n ms ≤ times_below m ms
below_rise n m ms h = let whole : (m - n) + n ≡ m = omega (arith, h) in
    subst (λ k. times_below n ms ≤ times_below k ms) whole (below_further (m - n) n ms)

-- ---- the items of a number

pub items_push : {X : Type 0} (n m : ℕ) (ms : List ℕ) (xs : List X) (x : X) → length ms ≡ length xs
    → items_of n (ms ++ m ∷ []) (xs ++ x ∷ []) ≡ items_of n ms xs ++ cond (eq_by_cmp nat_cmp n m) (x ∷ []) []
items_push n m [] [] x len = grind arith
items_push n m [] (y ∷ xs) x len = absurd (omega (arith, len))
items_push n m (k ∷ ms) [] x len = absurd (omega (arith, len))
items_push n m (k ∷ ms) (y ∷ xs) x len = grind (arith, items_push n m ms xs x (omega (arith, len)))

pub length-items_of : {X : Type 0} (n : ℕ) (ms : List ℕ) (xs : List X) → length ms ≡ length xs →
    length (items_of n ms xs) ≡ times n ms
length-items_of n [] xs len = refl
length-items_of n (m ∷ ms) [] len = absurd (omega (arith, len))
length-items_of n (m ∷ ms) (x ∷ xs) len = grind (arith, length-items_of n ms xs (omega (arith, len)))

-- an item of a number, among those of the same number
pub item_there : {X : Type 0} (n : ℕ) (ms : List ℕ) (xs : List X) (i : ℕ) (d : X) → length ms ≡ length xs → i < length ms
    → eq_by_cmp nat_cmp n (get_or ms i 0) ≡ true → get_or (items_of n ms xs) (times n (take i ms)) d ≡ get_or xs i d
item_there n [] xs i d len below here = absurd (omega (arith, below))
item_there n (m ∷ ms) [] i d len below here = absurd (omega (arith, len))
item_there n (m ∷ ms) (x ∷ xs) zero d len below here = grind arith
item_there n (m ∷ ms) (x ∷ xs) (suc i) d len below here =
    grind (arith, item_there n ms xs i d (omega (arith, len)) (omega (arith, below)) here)

-- each of them is the item at an index
pub record IsAt (n : ℕ) (ms : List ℕ) (k : ℕ) : Type 0 where
  pub index : ℕ
  pub below : index < length ms
  pub here : eq_by_cmp nat_cmp n (get_or ms index 0) ≡ true
  pub rank : times n (take index ms) ≡ k

pub find_item : (n : ℕ) (ms : List ℕ) (k : ℕ) → k < times n ms → IsAt n ms k
find_item n [] k under = absurd (omega (arith, under))
find_item n (m ∷ ms) k under = by (eq_by_cmp nat_cmp n m) refl k under (find_item n ms)
  where
    by : (b : Bool) → eq_by_cmp nat_cmp n m ≡ b → (k : ℕ) → k < times n (m ∷ ms) →
        ((l : ℕ) → l < times n ms → IsAt n ms l) → IsAt n (m ∷ ms) k
    by false other k under find =
        let later = find k (subst (λ b. k < cond b (suc (times n ms)) (times n ms)) other under) in
        let rank = later.rank in
        let below = later.below in
        record { index = suc later.index; below = omega (arith, below); here = later.here; rank = grind (arith, other, rank) }
    by true tie zero under find = record { index = zero; below = omega arith; here = tie; rank = refl }
    by true tie (suc k) under find =
        let fewer : suc k < suc (times n ms) = subst (λ b. suc k < cond b (suc (times n ms)) (times n ms)) tie under in
        let later = find k (omega (arith, fewer)) in
        let rank = later.rank in
        let below = later.below in
        record { index = suc later.index; below = omega (arith, below); here = later.here; rank = grind (arith, tie, rank) }

-- ---- where each item is

-- places of one number are apart, and so are those of others
pub place_within : (ms : List ℕ) (i : ℕ) → i < length ms → group_place ms i < length ms
place_within ms i below =
    let n = slice_index ms i in
    let here : eq_by_cmp nat_cmp n n ≡ true = grind arith in
    let one = times_more n ms i below here in
    let part = times_take n ms (suc i) in
    let all = below_le (suc n) ms in
    omega (arith, one, part, all)

times_rise : (n : ℕ) (ms : List ℕ) (i j : ℕ) → i ≤ j → times n (take i ms) ≤ times n (take j ms)
times_rise n [] zero zero h = omega arith
times_rise n [] zero (suc j) h = omega arith
times_rise n [] (suc i) zero h = absurd (omega (arith, h))
times_rise n [] (suc i) (suc j) h = omega arith
times_rise n (m ∷ ms) zero j h = omega arith
times_rise n (m ∷ ms) (suc i) zero h = absurd (omega (arith, h))
times_rise n (m ∷ ms) (suc i) (suc j) h = grind (arith, times_rise n ms i j (omega (arith, h)))

pub place_apart : (ms : List ℕ) (i j : ℕ) → i < length ms → j < length ms → i < j → group_place ms i ≡ group_place ms j → ⊥
place_apart ms i j first second order same = by (cases_order n m)
  where
    n : ℕ
    n = slice_index ms i

    m : ℕ
    m = slice_index ms j

    by : (n ≡ m) ⊎ ((n < m) ⊎ (m < n)) → ⊥
    by (inl alike) =
        let one = times_more n ms i first (number_tied n n refl) in
        let more = times_rise n ms (suc i) j (omega (arith, order)) in
        let at : group_place ms j ≡ times_below n ms + times n (take j ms) =
        ap (λ k. times_below k ms + times k (take j ms)) (sym alike) in
        absurd (omega (arith, one, more, at, same))
    by (inr (inl less)) =
        let one = times_more n ms i first (number_tied n n refl) in
        let part = times_take n ms (suc i) in
        let rise = below_rise (suc n) m ms less in
        absurd (omega (arith, one, part, rise, same))
    by (inr (inr more)) =
        let one = times_more m ms j second (number_tied m m refl) in
        let part = times_take m ms (suc j) in
        let rise = below_rise (suc m) n ms more in
        absurd (omega (arith, one, part, rise, same))

-- ---- a group

-- two lists of one length with the same items
pub alike : {X : Type 0} (xs ys : List X) → length xs ≡ length ys →
    ((k : ℕ) (d : X) → k < length xs → get_or xs k d ≡ get_or ys k d) → xs ≡ ys
alike [] [] len same = refl
alike [] (y ∷ ys) len same = absurd (omega (arith, len))
alike (x ∷ xs) [] len same = absurd (omega (arith, len))
alike {X} (x ∷ xs) (y ∷ ys) len same =
    λ i. same zero x (omega arith) i ∷ alike xs ys (omega (arith, len)) (λ k d below. same (suc k) d (omega (arith, below))) i

-- the items of a number, where each item is at its place
pub grouped : {X : Type 0} (ms : List ℕ) (xs ys : List X) → length ms ≡ length xs → length ys ≡ length xs
    → ((i : ℕ) (d : X) → i < length ms → get_or ys (group_place ms i) d ≡ get_or xs i d)
    → (n : ℕ) → slice_range ys (times_below n ms) (times_below (suc n) ms) ≡ items_of n ms xs
grouped {X} ms xs ys len long moved n =
    alike _ _ (as_many ∙ sym (length-items_of n ms xs len)) (λ k d below. each k d (omega (arith, below, as_many)))
  where
    start : ℕ
    start = times_below n ms

    as_many : length (slice_range ys start (times_below (suc n) ms)) ≡ times n ms
    as_many =
        let left = length-drop start ys in
        let room = below_le (suc n) ms in
        let span : times_below (suc n) ms - start ≡ times n ms = omega arith in
        ap (λ m. length (take m (drop start ys))) span ∙ length-take-le (times n ms) (drop start ys)
        (omega (arith, left, room, len, long))

    each : (k : ℕ) (d : X) → k < times n ms →
        get_or (slice_range ys start (times_below (suc n) ms)) k d ≡ get_or (items_of n ms xs) k d
    each k d under =
        let at = find_item n ms k under in
        let same : n ≡ slice_index ms at.index = tie_same n (slice_index ms at.index) at.here in
        let span : times_below (suc n) ms - start ≡ times n ms = omega arith in
        ap (λ m. get_or (take m (drop start ys)) k d) span ∙ get_or-take (times n ms) (drop start ys) k d under
        ∙ get_or-drop start ys k d ∙ ap (λ r. get_or ys (start + r) d) (sym at.rank)
        ∙ ap (λ m. get_or ys (times_below m ms + times m (take at.index ms)) d) same
        ∙ moved at.index d at.below
        ∙ sym (item_there n ms xs at.index d len at.below at.here)
        ∙ ap (λ r. get_or (items_of n ms xs) r d) at.rank

-- ---- the columns of a log

module _ (log : LogEntries) (last last_too : ℕ →
    ℕ) (numbers : List ℕ) (is : IsLog log) (chained : AreChained log.earlier last numbers) (i : ℕ)
    (here : last_too i ≡ suc (length log.cells)) (there : (j : ℕ) → (j ≡ i → ⊥) → last_too j ≡ last j) where
  lasts_more : (n : ℕ) → (n ≡ i) ⊎ (n ≡ i → ⊥) → last_too n ≡ last_place n (numbers ++ i ∷ [])
  lasts_more n (inl same) = ap last_too same ∙ here ∙ ap suc (sym (chained.len ∙ is.len))
      ∙ sym (last_push n i numbers ∙ ap (λ b. cond b (suc (length numbers)) (last_place n numbers)) (number_tied n i same))
  lasts_more n (inr apart) = there n apart ∙ chained.lasts n
      ∙ sym (last_push n i numbers ∙ ap (λ b. cond b (suc (length numbers)) (last_place n numbers)) (not_tied n i apart))

  links_more : (k : ℕ) → (k < length numbers) ⊎ (k ≡ length numbers)
      → slice_index (log.earlier ++ last i ∷ []) k ≡ last_place (slice_index (numbers ++ i ∷ []) k) (take k (numbers ++ i ∷ []))
  links_more k (inl below) =
      let len = chained.len in
      index-more log.earlier (last i) k (omega (arith, below, len)) ∙ chained.links k below
      ∙ sym (λ d. last_place (index-more numbers i k below d) (take-append-le k numbers (i ∷ []) (omega (arith, below)) d))
  links_more k (inr end) =
      ap (slice_index (log.earlier ++ last i ∷ [])) (end ∙ chained.len) ∙ index-last log.earlier (last i) ∙ chained.lasts i
      ∙ sym ((λ d. last_place (slice_index (numbers ++ i ∷ []) (end d)) (take (end d) (numbers ++ i ∷ [])))
      ∙ (λ d. last_place (index-last numbers i d) (take-append-le (length numbers) numbers (i ∷ []) (omega arith) d))
      ∙ ap (last_place i) (take_all (length numbers) numbers (omega arith)))

-- one more coefficient
pub chained_more : (log : LogEntries) (last last_too : ℕ → ℕ) (i : ℕ) (cell : ℕ × Number) → IsLog log →
    HaveNumbers log.earlier last → last_too i ≡ suc (length log.cells) → ((j : ℕ) → (j ≡ i → ⊥) → last_too j ≡ last j) →
    ((n : ℕ) → (n ≡ i) ⊎ (n ≡ i → ⊥)) → HaveNumbers (logged log (last i) cell).earlier last_too
chained_more log last last_too i cell is have here there alike_or = record {
  numbers = have.numbers ++ i ∷ [];
  chained = record {
    len = length-append have.numbers (i ∷ []) ∙ ap (λ n. n + 1) have.chained.len ∙ sym (length-append log.earlier (last i ∷ []));
    links = λ k below. links_more log last last_too have.numbers is have.chained i here there k (at_end k below);
    lasts = λ n. lasts_more log last last_too have.numbers is have.chained i here there n (alike_or n);
  };
}
  where
    at_end : (k : ℕ) → k < length (have.numbers ++ i ∷ []) → (k < length have.numbers) ⊎ (k ≡ length have.numbers)
    at_end k below = by (cases_lt k (length have.numbers))
      where
        by : (k < length have.numbers) ⊎ (length have.numbers ≤ k) → (k < length have.numbers) ⊎ (k ≡ length have.numbers)
        by (inl less) = inl less
        by (inr more) = let long = length-append have.numbers (i ∷ []) in inr (omega (arith, more, below, long))

-- the coefficients of a column, the latest first
module _ (log : LogEntries) (is : IsLog log) (last : ℕ →
    ℕ) (numbers : List ℕ) (chained : AreChained log.earlier last numbers) (n : ℕ) where
  no_cell : ℕ × Number
  no_cell = (0, zero_number)

  chain_step : (m : ℕ) → m < length numbers → (b : Bool) → eq_by_cmp nat_cmp n (slice_index numbers m) ≡ b
      → chain log (last_place n (take m numbers)) ≡ reverse (items_of n (take m numbers) (take m log.cells))
      → chain log (cond b (suc (length (take m numbers))) (last_place n (take m numbers)))
      ≡ reverse (items_of n (take m numbers) (take m log.cells) ++ cond b (get_or log.cells m no_cell ∷ []) [])
  chain_step m below false other before = before ∙ ap reverse (sym (append-nil (items_of n (take m numbers) (take m log.cells))))
  chain_step m below true tie before =
      let len = chained.len in
      let as_many = is.len in
      let place : suc (length (take m numbers)) ≡ suc m = ap suc (length-take-le m numbers (omega (arith, below))) in
      let same = tie_same n (slice_index numbers m) tie in
      unchained log is (suc (length (take m numbers))) m (get_or log.cells m no_cell) place
      (slice_get-get_or log.cells m no_cell (omega (arith, below, len, as_many)))
      ∙ ap (λ (rest : List (ℕ × Number)). get_or log.cells m no_cell ∷ rest)
      (ap (chain log) (chained.links m below ∙ ap (λ k. last_place k (take m numbers)) (sym same)) ∙ before)
      ∙ sym (reverse-append (items_of n (take m numbers) (take m log.cells)) (get_or log.cells m no_cell ∷ []))

  chain_upto : (m : ℕ) → m ≤ length numbers →
      chain log (last_place n (take m numbers)) ≡ reverse (items_of n (take m numbers) (take m log.cells))
  chain_upto zero below = refl
  chain_upto (suc m) below =
      let len = chained.len in
      let as_many = is.len in
      let more = take-suc numbers m 0 (omega (arith, below)) in
      let cells = take-suc log.cells m no_cell (omega (arith, below, len, as_many)) in
      let first = length-take-le m numbers (omega (arith, below)) in
      let second = length-take-le m log.cells (omega (arith, below, len, as_many)) in
      ap (λ ms. chain log (last_place n ms)) more
      ∙ ap (chain log) (last_push n (slice_index numbers m) (take m numbers))
      ∙ chain_step m (omega (arith, below)) (eq_by_cmp nat_cmp n (slice_index numbers m)) refl
      (chain_upto m (omega (arith, below))) ∙ ap reverse (sym ((λ d. items_of n (more d) (cells d))
      ∙ items_push n (slice_index numbers m) (take m numbers) (take m log.cells) (get_or log.cells m no_cell)
      (first ∙ sym second)))

  pub chain_whole : chain log (last n) ≡ reverse (items_of n numbers log.cells)
  chain_whole =
      let len = chained.len in
      let as_many = is.len in
      ap (chain log) (chained.lasts n ∙ ap (last_place n) (sym (take_all (length numbers) numbers (omega arith))))
      ∙ chain_upto (length numbers) (omega arith)
      ∙ (λ d. reverse (items_of n (take_all (length numbers) numbers (omega arith) d)
      (take_all (length numbers) log.cells (omega (arith, len, as_many)) d)))
