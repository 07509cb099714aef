-- Entries in the order of their names.
use Rattle.std.proofs.Common.{IsPermutation, false, List, [], ap, arith, get_or, drop, length, map, refl, set, subst}
use Rattle.std.proofs.Common.{suc, sym, take, zero, ℕ, ◌*◌, ◌+◌}
use Rattle.std.proofs.{Common.{◌<◌, ◌∙◌, ◌∷◌, ◌≡◌, ◌≤◌}, lemmas.List.{get_or-map, get_or-set_other, get_or-set_same, get_or-take}}
use Rattle.std.proofs.lemmas.List.{drop_all, length-map, length-set, length-take-le, FromFn.{get_or-range_with_len, length-range_with_len}}
use Rattle.std.{proofs.lemmas.{List.Sorted.{All-permutation, IsPermutation-map}, Option.slice_get-get_or}, specs.Cmp.IsTotalOrder}
use Rattle.std.specs.{Cmp.{nat_cmp_total, on_total, ranked, then_total}, FinMap.nat_cmp-IsAntisymmetric, List.{All, SwappedAt, cons_option}}
use Rattle.std.specs.{List.{range_with_len, Sorted.IsSortedBy}, Ordering.{is_lt, nat_cmp, ordering_then}, Prelude.{IfOk, Result, Some}}
use Rattle.std.specs.{Prelude.{slice_index, ◌≢◌}, declared.cmp.Ordering.TheVariants.{Equal, Greater, Less}}
use Rattle.mpslp_model_core.proofs.{CellLemmas.{bytes_total, tied_names}, RenumberLemmas.all-from_each}
use Rattle.mpslp_types.{proofs.EachLemmas.Each, specs.Name.bytes_cmp}
use Rattle.mpslp_builder_parts.specs.Ordered.{BeginAlike, entries_at, front_at, front_cmp, front_value, name_at}
use Rattle.mpslp_builder_parts.specs.declared.order.Front.{Front}

-- the weight of a byte that is followed by so many others
abbrev pub worth : ℕ → ℕ
worth zero = 1
worth (suc n) = worth n * 256

abbrev pub AreBytes : List ℕ → Type 0
AreBytes name = (i : ℕ) → get_or name i 0 < 256

pub front-below : (n : ℕ) (name : List ℕ) → AreBytes name → front_value n name < worth n
front-below zero name bytes = omega arith
front-below (suc n) name bytes = omega (arith, front-below n name bytes, bytes n)

-- ---- the key, from the first byte on

front-none : (n : ℕ) → front_value n [] ≡ 0
front-none zero = refl
front-none (suc n) = omega (arith, front-none n)

front-first : (n : ℕ) (x : ℕ) (xs : List ℕ) → front_value (suc n) (x ∷ xs) ≡ x * worth n + front_value n xs
front-first zero x xs = omega arith
front-first (suc n) x xs = grind (arith, front-first n x xs)

less_is : (x y : ℕ) → nat_cmp x y ≡ Less → x < y
less_is x y is = ranked x y Less (sym is)

below : (a b w f g : ℕ) → a < b → f < w → a * w + f ≤ b * w + g
below a b w f g h i = grind (arith, h, i)

tail_bytes : (x : ℕ) (xs : List ℕ) → AreBytes (x ∷ xs) → AreBytes xs
tail_bytes x xs h i = h (suc i)

-- the key of the lesser name is not greater
front-rises : (n : ℕ) (a b : List ℕ) → AreBytes a → AreBytes b → bytes_cmp a b ≡ Less → front_value n a ≤ front_value n b
front-rises (suc n) (x ∷ xs) (y ∷ ys) h k less =
    let first = front-first n x xs in
    let second = front-first n y ys in
    elim (nat_cmp x y) as (λ r. nat_cmp x y ≡ r → ordering_then r (bytes_cmp xs ys) ≡ Less
    → front_value (suc n) (x ∷ xs) ≤ front_value (suc n) (y ∷ ys)) [
      | Less ↦ λ is _. omega (
        arith,
        first,
        second,
        below x y (worth n) (front_value n xs) (front_value n ys) (less_is x y is)
            (front-below n xs (tail_bytes x xs h)),
      )
      | Equal ↦ λ is rest.
          let same = ap (λ b. b * worth n) (nat_cmp-IsAntisymmetric x y is) in
          omega (arith, first, second, same, front-rises n xs ys (tail_bytes x xs h) (tail_bytes y ys k) rest)
      | Greater ↦ λ _ never. cc
    ] refl less
front-rises _ _ _ h k less = grind (arith, front-none)

-- comparison by key and then by name is comparison by bytes
pub front-then : (n : ℕ) (a b : List ℕ) → AreBytes a → AreBytes b
    → ordering_then (nat_cmp (front_value n a) (front_value n b)) (bytes_cmp a b) ≡ bytes_cmp a b
front-then = grind (arith, front-rises, tied_names, bytes_total, less_is)

-- ---- Entries in the order of their names.

pub name_at-entry : {V : Type 0} (entries : List (List ℕ × V)) (n : ℕ) (e : List ℕ × V) → n < length entries →
    e ≡ get_or entries n e → (get_or entries n e).0 ≡ name_at entries n
name_at-entry (x ∷ entries) (suc n) e h is = name_at-entry entries n e (omega arith) is
name_at-entry _ _ e h is = grind arith

pub front_total : {V : Type 0} (entries : List (List ℕ × V)) → IsTotalOrder (front_cmp entries)
front_total entries = then_total (on_total (λ f. f.bytes) nat_cmp_total) (on_total (λ f. name_at entries f.number) bytes_total)

-- ---- sorted keys, and their numbers

-- a key has the first bytes of the name
abbrev pub IsFrontOf : {V : Type 0} → List (List ℕ × V) → ℕ → Front → Type 0
IsFrontOf entries shared f =
    (f.bytes ≡ front_value 8 (drop shared (name_at entries f.number))) × BeginAlike shared (name_at entries 0)
    (name_at entries f.number)

abbrev pub HaveBytes : {V : Type 0} → List (List ℕ × V) → ℕ → Type 0
HaveBytes entries shared = (n : ℕ) → AreBytes (drop shared (name_at entries n))

-- bytes that both names begin with do not matter
pub alike-cmp : (shared : ℕ) (a b : List ℕ) → take shared a ≡ take shared b →
    bytes_cmp a b ≡ bytes_cmp (drop shared a) (drop shared b)
alike-cmp zero a b same = refl
alike-cmp (suc shared) [] [] same = refl
alike-cmp (suc shared) (x ∷ a) (y ∷ b) same = grind (arith, alike-cmp shared a b)
alike-cmp (suc shared) _ _ same = grind arith

as_names : {V : Type 0} (entries : List (List ℕ × V)) (shared : ℕ) → HaveBytes entries shared → (a b : Front)
    → IsFrontOf entries shared a → IsFrontOf entries shared b
    → front_cmp entries a b ≡ bytes_cmp (name_at entries a.number) (name_at entries b.number)
as_names entries shared bytes a b p q =
    let rest = alike-cmp shared (name_at entries a.number) (name_at entries b.number) (sym p.1.1 ∙ q.1.1) in
    (λ i. ordering_then (nat_cmp (p.0 i) (q.0 i)) (rest i))
    ∙ front-then 8 _ _ (bytes a.number) (bytes b.number) ∙ sym rest

pub sorted_numbers : {V : Type 0} (entries : List (List ℕ × V)) (shared : ℕ) → HaveBytes entries shared → (fronts : List Front)
    → All (IsFrontOf entries shared) fronts
    → IsSortedBy (λ a b. is_lt (front_cmp entries a b)) fronts
    → IsSortedBy (λ n m. is_lt (bytes_cmp (name_at entries n) (name_at entries m))) (map (λ f. f.number) fronts)
sorted_numbers entries shared bytes [] own sorted k d l h = grind arith
sorted_numbers entries shared bytes (f ∷ fronts) own sorted k d l h =
    let all = f ∷ fronts in
    let there : k + 1 < length all = omega (arith, h, length-map all (λ f. f.number)) in
    let here : k < length all = omega (arith, there) in
    (λ i. is_lt (bytes_cmp (name_at entries (get_or-map (λ f. f.number) all (k + 1) f d there i))
    (name_at entries (get_or-map (λ f. f.number) all k f d here i))))
    ∙ ap is_lt (sym (as_names entries shared bytes _ _ (own (k + 1) f there) (own k f here)))
    ∙ sorted k f l there

-- a property below a number and at it
pub at_next : (P : ℕ → Type 0) (number n : ℕ) → n < number + 1 → (n < number → P n) → P number → P n
at_next = grind arith

-- ---- the numbers in that order

-- an implication for a result, if there is one
pub if_ok : {A B : Type 0} {P Q : A → Type 0} (r : Result A B) → ((a : A) → P a → Q a) → IfOk r P → IfOk r Q
if_ok _ f h = grind arith

-- a missing entry has no bytes in its name
name_bytes : {V : Type 0} (entries : List (List ℕ × V)) (shared n i : ℕ) →
    (n < length entries → get_or (drop shared (name_at entries n)) i 0 < 256) → get_or (drop shared (name_at entries n)) i 0 < 256
name_bytes (x ∷ entries) shared (suc n) i h = name_bytes entries shared n i (λ l. h (omega (arith, l)))
name_bytes (x ∷ entries) shared zero i h = h (omega arith)
name_bytes [] shared n i h = grind (arith, drop_all)

pub have_bytes : {V : Type 0} (entries : List (List ℕ × V)) (shared : ℕ)
    → ((n i : ℕ) → n < length entries → slice_index (drop shared (name_at entries n)) i < 256) → HaveBytes entries shared
have_bytes entries shared h n i = name_bytes entries shared n i (h n i)

-- each entry's name begins with these bytes of the first one
abbrev pub AllAlike : {V : Type 0} → List (List ℕ × V) → ℕ → Type 0
AllAlike entries shared = (n : ℕ) → n < length entries → BeginAlike shared (name_at entries 0) (name_at entries n)

own_fronts : {V : Type 0} (entries : List (List ℕ × V)) (shared : ℕ) → AllAlike entries shared → (start count : ℕ)
    → start + count ≤ length entries →
    Each (IsFrontOf entries shared) (map (front_at entries shared) (range_with_len start count))
own_fronts entries shared alike start zero h = tt
own_fronts entries shared alike start (suc count) h =
    ((refl, alike start (omega (arith, h))), own_fronts entries shared alike (start + 1) count (omega (arith, h)))

numbers-fronts : {V : Type 0} (entries : List (List ℕ × V)) (shared : ℕ) (ns : List ℕ)
    → map (λ f. f.number) (map (front_at entries shared) ns) ≡ ns
numbers-fronts entries shared [] = refl
numbers-fronts entries shared (n ∷ ns) = ap (λ ns. n ∷ ns) (numbers-fronts entries shared ns)

pub numbers-permutation : {V : Type 0} (entries : List (List ℕ × V)) (shared : ℕ) (ns : List ℕ) (fronts sorted : List Front)
    → fronts ≡ map (front_at entries shared) ns → IsPermutation fronts sorted → IsPermutation ns (map (λ f. f.number) sorted)
numbers-permutation entries shared ns fronts sorted is p =
    subst (λ ns. IsPermutation ns (map (λ f. f.number) sorted)) (ap (λ fs. map (λ f. f.number) fs) is
    ∙ numbers-fronts entries shared ns) (IsPermutation-map (λ f. f.number) fronts sorted p)

pub own-fronts : {V : Type 0} (entries : List (List ℕ × V)) (shared : ℕ) → AllAlike entries shared → (fronts sorted : List Front)
    → fronts ≡ map (front_at entries shared) (range_with_len 0 (length entries)) → IsPermutation fronts sorted
    → All (IsFrontOf entries shared) sorted
own-fronts entries shared alike fronts sorted is p =
    All-permutation (IsFrontOf entries shared) fronts sorted p
    (subst (All (IsFrontOf entries shared)) (sym is)
    (all-from_each _ _ (own_fronts entries shared alike 0 (length entries) (omega arith))))

-- names of which none is below the one before it
pub sorted_already : {V : Type 0} (entries : List (List ℕ × V))
    → ((k : ℕ) → k + 1 < length entries → is_lt (bytes_cmp (name_at entries (k + 1)) (name_at entries k)) ≡ false)
    → IsSortedBy (λ n m. is_lt (bytes_cmp (name_at entries n) (name_at entries m))) (range_with_len 0 (length entries))
sorted_already entries rises k d low l =
    let n = length entries in
    let there : k + 1 < n = omega (arith, l, length-range_with_len 0 n) in
    let here : k < n = omega (arith, there) in
    let next : get_or (range_with_len 0 n) (k + 1) d ≡ k + 1 = omega (arith, get_or-range_with_len 0 n (k + 1) d there) in
    let own : get_or (range_with_len 0 n) k d ≡ k = omega (arith, get_or-range_with_len 0 n k d here) in
    (λ i. is_lt (bytes_cmp (name_at entries (next i)) (name_at entries (own i)))) ∙ rises k there

-- ---- Items that are moved to their places one after another, each by a swap.

-- ---- what holds after some of the moves

-- the number of the item at a place
pub record IsNumbered {X : Type 0} (all items : List X) (numbers places : List ℕ) (place : ℕ) : Type 0 where
  pub below : get_or numbers place 0 < length all
  pub back : get_or places (get_or numbers place 0) 0 ≡ place
  pub item : (d : X) → get_or items place d ≡ get_or all (get_or numbers place 0) d

-- the place of the item of a number, among those that are not done
pub record IsPlaced (done len : ℕ) (numbers places : List ℕ) (number : ℕ) : Type 0 where
  pub later : done ≤ get_or places number 0
  pub below : get_or places number 0 < len
  pub back : get_or numbers (get_or places number 0) 0 ≡ number

pub record AreMoved {X : Type 0} (all : List X) (order : List ℕ) (done : ℕ) (items : List X)
    (numbers places : List ℕ) : Type 0 where
  pub within : done ≤ length all
  pub len : length items ≡ length all
  pub numbers_len : length numbers ≡ length all
  pub places_len : length places ≡ length all
  pub moved : (r : ℕ) (d : X) → r < done → get_or items r d ≡ get_or all (get_or order r 0) d
  pub numbered : (q : ℕ) → done ≤ q → q < length all → IsNumbered all items numbers places q
  pub placed : (i : ℕ) → i < length all → ((r : ℕ) → r < done → get_or order r 0 ≢ i) →
      IsPlaced done (length all) numbers places i

-- ---- before the first move

pub none_moved : {X : Type 0} (all : List X) (order : List ℕ)
    → AreMoved all order 0 all (range_with_len 0 (length all)) (range_with_len 0 (length all))
none_moved all order = grind (arith, get_or-range_with_len, length-range_with_len, below)

-- ---- one move

module _ {X : Type 0} (all : List X) (order : List ℕ) (within : (p : ℕ) → p < length order → get_or order p 0 < length all)
    (apart : (p q : ℕ) → p < q → q < length order → get_or order p 0 ≢ get_or order q 0)
    (done : ℕ) (left : done < length order) (items : List X) (numbers places : List ℕ)
    (before : AreMoved all order done items numbers places) where
  -- where the item is that comes next
  pub next_placed : IsPlaced done (length all) numbers places (get_or order done 0)
  next_placed = grind arith

  pub next_below : done < length all
  next_below = omega (arith, next_placed.later, next_placed.below)

  -- the item that makes room for it
  pub next_numbered : IsNumbered all items numbers places done
  next_numbered = before.numbered done (omega arith) next_below

  pub next_moved : (from moved : ℕ) (new : List X) → from ≡ get_or places (get_or order done 0) 0 → moved ≡ get_or numbers done 0
      → SwappedAt items new done from → length new ≡ length items
      → AreMoved all order (done + 1) new (set numbers from moved) (set places moved from)
  next_moved = grind (
    arith,
    next_placed,
    below,
    next_numbered,
    set,
    get_or-set_same,
    next_below,
    length-set,
    at_next,
    get_or-set_other,
  )

-- ---- after the last move

taken_is : {X : Type 0} (all : List X) (order : List ℕ) (done : List X) → length done ≡ length order
    → ((p : ℕ) (d : X) → p < length order → get_or done p d ≡ get_or all (get_or order p 0) d)
    → ((p : ℕ) → p < length order → get_or order p 0 < length all) → done ≡ entries_at all order
taken_is all [] [] len same within = refl
taken_is all [] (x ∷ done) len same within = absurd (omega (arith, len))
taken_is all (n ∷ order) [] len same within = absurd (omega (arith, len))
taken_is {X} all (n ∷ order) (x ∷ done) len same within =
    let first = slice_get-get_or all n x (within zero (omega arith)) ∙ ap Some (sym (same zero x (omega arith))) in
    let rest = taken_is all order done (omega (arith, len)) (λ p d l. same (suc p) d (omega (arith, l)))
    (λ p l. within (suc p) (omega (arith, l))) in
    ap (λ more. x ∷ more) rest ∙ ap (λ o. cons_option o (entries_at all order)) (sym first)

-- all items in the order in which they are
pub all_taken : {X : Type 0} (all : List X) → all ≡ entries_at all (range_with_len 0 (length all))
all_taken all =
    let n = length all in
    let number : (p d : ℕ) → p < n →
    get_or (range_with_len 0 n) p d ≡ p = λ p d l. omega (arith, get_or-range_with_len 0 n p d l) in
    taken_is all (range_with_len 0 n) all (sym (length-range_with_len 0 n))
    (λ p d l. let here : p < n = omega (arith, l, length-range_with_len 0 n) in ap (λ q. get_or all q d) (sym (number p 0 here)))
    (λ p l. let here : p < n = omega (arith, l, length-range_with_len 0 n) in omega (arith, here, number p 0 here))

-- entries that are not moved, because their names are in order
module _ {V : Type 0} (entries : List (List ℕ × V)) (numbers : List ℕ) (len : ℕ) (len_is : len ≡ length entries)
    (numbers_are : numbers ≡ range_with_len 0 len) where
  pub all_numbers : range_with_len 0 (length entries) ≡ numbers
  all_numbers = sym (numbers_are ∙ ap (range_with_len 0) len_is)

  pub sorted_in_place : (seen : List (List ℕ × V)) → seen ≡ entries
      → IsSortedBy (λ n m. is_lt (bytes_cmp (name_at seen n) (name_at seen m))) (range_with_len 0 (length seen))
      → IsSortedBy (λ n m. is_lt (bytes_cmp (name_at entries n) (name_at entries m))) numbers
  sorted_in_place seen same sorted =
      subst (IsSortedBy (λ n m. is_lt (bytes_cmp (name_at entries n) (name_at entries m)))) all_numbers
      (subst (λ (es : List (List ℕ × V)). IsSortedBy (λ n m. is_lt (bytes_cmp (name_at es n) (name_at es m)))
      (range_with_len 0 (length es))) same sorted)

  pub taken_in_place : entries ≡ entries_at entries numbers
  taken_in_place = all_taken entries ∙ ap (entries_at entries) all_numbers

-- what is at the first places are the items of the order
pub all_moved : {X : Type 0} (all : List X) (order : List ℕ) (items : List X) (numbers places : List ℕ)
    → ((p : ℕ) → p < length order → get_or order p 0 < length all)
    → AreMoved all order (length order) items numbers places → take (length order) items ≡ entries_at all order
all_moved all order items numbers places within after =
    taken_is all order _ (length-take-le _ items (omega (arith, after.within, after.len)))
    (λ p d l. get_or-take _ items p d l ∙ after.moved p d l) within
