-- Items that are moved until each is at its place. A move is a swap if the item that is held counts as put back.
use Rattle.std.proofs.Common.{◌≡◌, ◌≢◌, refl, sym, ap, subst, ◌∙◌, ℕ, zero, suc, ◌+◌, ◌≤◌, ◌<◌, List, length, arith}
use Rattle.std.proofs.Common.{get_or, set, cond, ◌⊎◌, inl, inr}
use Rattle.std.specs.Ordering.{nat_cmp, eq_by_cmp}
use Rattle.std.proofs.lemmas.Bool.{cases_order}
use Rattle.std.proofs.lemmas.List.{get_or-set_same, get_or-set_other, set-set, set-get_or, length-set}
use Rattle.mpslp_builder_parts.specs.Swapped.{AreSwapped}

-- ---- how many are not at their places

-- whether the item at an index has to go elsewhere
abbrev pub away : List ℕ → ℕ → ℕ
away places i = cond (eq_by_cmp nat_cmp (get_or places i 0) i) 0 1

abbrev pub count_away : ℕ → List ℕ → ℕ
count_away zero places = 0
count_away (suc n) places = count_away n places + away places n

away_le : (n : ℕ) (old new : List ℕ) → ((i : ℕ) → i < n → away new i ≤ away old i) → count_away n new ≤ count_away n old
away_le zero old new each = omega arith
away_le (suc n) old new each =
    let rest = away_le n old new (λ i below. each i (omega (arith, below))) in
    let last = each n (omega arith) in omega (arith, rest, last)

away_less : (n : ℕ) (old new : List ℕ) (t : ℕ) → t < n → away new t < away old t → ((i : ℕ) → i < n → away new i ≤ away old i)
    → count_away n new < count_away n old
away_less zero old new t below less each = absurd (omega (arith, below))
away_less (suc n) old new t below less each =
    by (cases_order t n) (λ before. away_less n old new t before less (λ i inside. each i (omega (arith, inside))))
  where
    by : (t ≡ n) ⊎ ((t < n) ⊎ (n < t)) → (t < n → count_away n new < count_away n old) →
        count_away (suc n) new < count_away (suc n) old
    by (inl same) rest =
        let others = away_le n old new (λ i inside. each i (omega (arith, inside))) in
        let here : away new n < away old n = subst (λ k. away new k < away old k) same less in
        omega (arith, others, here)
    by (inr (inl before)) rest = let some = rest before in
        let last = each n (omega arith) in omega (arith, some, last)
    by (inr (inr after)) rest = absurd (omega (arith, below, after))

-- ---- two items that are swapped

-- where the item at an index was before
abbrev pub mirror : ℕ → ℕ → ℕ → ℕ
mirror one other i = cond (eq_by_cmp nat_cmp i one) other (cond (eq_by_cmp nat_cmp i other) one i)

mirror_one : (one other : ℕ) → mirror one other one ≡ other
mirror_one = grind arith

mirror_other : (one other : ℕ) → mirror one other other ≡ one
mirror_other = grind arith

mirror_else : (one other i : ℕ) → (i ≡ one → ⊥) → (i ≡ other → ⊥) → mirror one other i ≡ i
mirror_else = grind arith

mirror_below : (one other i len : ℕ) → one < len → other < len → i < len → mirror one other i < len
mirror_below = grind arith

mirror_before : (one other i done : ℕ) → done ≤ one → done ≤ other → i < done → mirror one other i ≡ i
mirror_before = grind arith

mirror_mirror : (one other i : ℕ) → mirror one other (mirror one other i) ≡ i
mirror_mirror one other i = grind (arith, mirror_one, mirror_other, mirror_else)

-- each item comes from there
abbrev pub Mirrors : {X : Type 0} → List X → List X → ℕ → ℕ → Type 0
Mirrors {X} items new one other = (i : ℕ) (d : X) → get_or new i d ≡ get_or items (mirror one other i) d

-- an item is held, whose index counts as its place: it is put at another index, and the item that was there is held
exchanged : {X : Type 0} (items : List X) (at to : ℕ) (held put other : X) → at < length items → to < length items → (to ≡ at → ⊥)
    → put ≡ held → ((d : X) → other ≡ get_or items to d) → Mirrors (set items at held) (set (set items to put) at other) at to
exchanged items at to held put other at_in to_in moves same was i d =
    grind (arith, same, was d, get_or-set_same, get_or-set_other, length-set, mirror_one, mirror_other, mirror_else)

-- the first item that is held
pub first_held : {X : Type 0} (items : List X) (at : ℕ) (none held : X) → held ≡ get_or items at held →
    set (set items at none) at held ≡ items
first_held items at none held is = set-set items at none held ∙ ap (set items at) is ∙ set-get_or items at held

-- ---- items in another order

pub none_swapped : {X : Type 0} (all : List X) (wanted : List ℕ) → length wanted ≡ length all
    → ((i : ℕ) → i < length wanted → get_or wanted i 0 < length wanted)
    → ((i j : ℕ) → i < j → j < length wanted → get_or wanted i 0 ≢ get_or wanted j 0) → AreSwapped all wanted 0 all wanted
none_swapped all wanted len within apart = record {
  len = refl;
  places_len = len;
  within = λ i below. let inside = within i (omega (arith, below, len)) in omega (arith, inside, len);
  apart = λ i j first second same. by i j first second same (cases_order i j);
  home = λ i below. absurd (omega (arith, below));
  there = λ i below. record { index = i; below = below; place = refl; item = λ d. refl };
}
  where
    by : (i j : ℕ) → i < length all → j < length all → get_or wanted i 0 ≡ get_or wanted j 0 →
        (i ≡ j) ⊎ ((i < j) ⊎ (j < i)) → i ≡ j
    by i j first second same (inl tie) = tie
    by i j first second same (inr (inl before)) = absurd (apart i j before (omega (arith, second, len)) same)
    by i j first second same (inr (inr after)) = absurd (apart j i after (omega (arith, first, len)) (sym same))

-- two items are swapped that may be away from their places
after_swap : {X : Type 0} (all : List X) (wanted : List ℕ) (done : ℕ) (items : List X) (places : List ℕ) →
    AreSwapped all wanted done items places → (one other : ℕ) → one < length all → other < length all → done ≤ one → done ≤ other
    → (new : List X) (later : List ℕ) → length new ≡ length items → length later ≡ length places
    → Mirrors items new one other → Mirrors places later one other → AreSwapped all wanted done new later
after_swap {X} all wanted done items places before one other one_in other_in one_left other_left new later new_len
    later_len swapped replaced = record {
      len = new_len ∙ before.len;
      places_len = later_len ∙ before.places_len;
      within = λ i below. subst (λ n. n < length all) (sym (was i)) (before.within (from i) (inside i below));
      apart = λ i j first second same. sym (back i)
          ∙ ap from (before.apart (from i) (from j) (inside i first) (inside j second) (sym (was i) ∙ same ∙ was j)) ∙ back j;
      home = λ i under. was i ∙ ap place (mirror_before one other i done one_left other_left under) ∙ before.home i under;
      there = λ i below. let old = before.there i below in record {
        index = from old.index;
        below = inside old.index old.below;
        place = was (from old.index) ∙ ap place (back old.index) ∙ old.place;
        item = λ d. swapped (from old.index) d ∙ ap (λ k. get_or items k d) (back old.index) ∙ old.item d;
      };
    }
  where
    from : ℕ → ℕ
    from = mirror one other

    back : (i : ℕ) → from (from i) ≡ i
    back = mirror_mirror one other

    inside : (i : ℕ) → i < length all → from i < length all
    inside i below = mirror_below one other i (length all) one_in other_in below

    place : ℕ → ℕ
    place i = get_or places i 0

    was : (i : ℕ) → get_or later i 0 ≡ place (from i)
    was i = replaced i 0

-- an item that was away comes to its place
pub fewer_away : (places later : List ℕ) (at to len : ℕ) → to < len → to ≡ get_or places at 0 → (to ≡ at → ⊥)
    → ((get_or places to 0 ≡ to) → ⊥) → Mirrors places later at to → count_away len later < count_away len places
fewer_away places later at to len below to_is moves was_away replaced =
    away_less len places later to below (grind (arith, to_is, was_away, replaced to 0, mirror_other)) (λ i inside. each i)
  where
    each : (i : ℕ) → away later i ≤ away places i
    each i = grind (arith, replaced i 0, mirror_one, mirror_other, mirror_else, to_is, moves, was_away)

-- the item that comes next is at its place
pub next_home : {X : Type 0} (all : List X) (wanted : List ℕ) (done : ℕ) (items : List X) (places : List ℕ) →
    AreSwapped all wanted done items places → get_or places done 0 ≡ done → AreSwapped all wanted (done + 1) items places
next_home all wanted done items places before home = record {
  len = before.len;
  places_len = before.places_len;
  within = before.within;
  apart = before.apart;
  home = λ i under. by i (cases_order i done) under;
  there = before.there;
}
  where
    by : (i : ℕ) → (i ≡ done) ⊎ ((i < done) ⊎ (done < i)) → i < done + 1 → get_or places i 0 ≡ i
    by i (inl same) under = ap (λ k. get_or places k 0) same ∙ home ∙ sym same
    by i (inr (inl less)) under = before.home i less
    by i (inr (inr more)) under = absurd (omega (arith, more, under))

-- all are
pub all_home : {X : Type 0} (all : List X) (wanted : List ℕ) (done : ℕ) (items : List X) (places : List ℕ) →
    AreSwapped all wanted done items places → length all ≤ done → (i : ℕ) (d : X) → i < length all →
    get_or items (get_or wanted i 0) d ≡ get_or all i d
all_home all wanted done items places after whole i d below =
    let at = after.there i below in
    let under = at.below in
    ap (λ k. get_or items k d) (sym at.place ∙ after.home at.index (omega (arith, under, whole))) ∙ at.item d

-- the item whose turn it is, at another place than its own
module _ {X : Type 0} (all : List X) (wanted : List ℕ) (done : ℕ) (items : List X) (places : List ℕ)
    (before : AreSwapped all wanted done items places) (inside : done < length all) (to : ℕ)
    (to_is : to ≡ get_or places done 0) (moves : to ≡ done → ⊥) where
  pub to_within : to < length all
  to_within = let under = before.within done inside in omega (arith, under, to_is)

  -- that place does not have its own item
  pub was_away : get_or places to 0 ≡ to → ⊥
  was_away home = moves (before.apart to done to_within inside (home ∙ to_is))

  pub to_left : done ≤ to
  to_left = by (cases_order done to)
    where
      by : (done ≡ to) ⊎ ((done < to) ⊎ (to < done)) → done ≤ to
      by (inl same) = omega (arith, same)
      by (inr (inl more)) = omega (arith, more)
      by (inr (inr less)) = absurd (was_away (before.home to less))

-- ---- an item that is held, and its place

module _ {X : Type 0} (all : List X) (wanted : List ℕ) (done at : ℕ) (items : List X) (places : List ℕ) (held : X) (place : ℕ)
    (before : AreSwapped all wanted done (set items at held) (set places at place)) (inside : at < length all) where
  held_len : length items ≡ length all
  held_len = sym (length-set items at held) ∙ before.len

  held_places_len : length places ≡ length all
  held_places_len = sym (length-set places at place) ∙ before.places_len

  pub held_in : (to : ℕ) → to < length all → to < length items
  held_in to below = let len = held_len in omega (arith, below, len)

  pub held_places_in : (to : ℕ) → to < length all → to < length places
  held_places_in to below = let len = held_places_len in omega (arith, below, len)

  pub held_place : place ≡ get_or (set places at place) at 0
  held_place = sym (get_or-set_same places at place 0 (held_places_in at inside))

  -- it was put at another index, and the item that was there is held
  module _ (to : ℕ) (below : to < length all) (moves : to ≡ at → ⊥) (put other : X) (placed next : ℕ)
      (same : put ≡ held) (was : (d : X) → other ≡ get_or items to d) (placed_is : placed ≡ place) (next_is : (d : ℕ) →
      next ≡ get_or places to d) where
    pub places_mirrored : Mirrors (set places at place) (set (set places to placed) at next) at to
    places_mirrored = exchanged places at to place placed next (held_places_in at inside) (held_places_in to below)
        moves placed_is next_is

    pub held_moved : done ≤ at → done ≤ to →
        AreSwapped all wanted done (set (set items to put) at other) (set (set places to placed) at next)
    held_moved at_left to_left = after_swap all wanted done (set items at held) (set places at place) before at to
        inside below at_left to_left (set (set items to put) at other) (set (set places to placed) at next)
        (length-set (set items to put) at other ∙ length-set items to put ∙ sym (length-set items at held))
        (length-set (set places to placed) at next ∙ length-set places to placed ∙ sym (length-set places at place))
        (exchanged items at to held put other (held_in at inside) (held_in to below) moves same was) places_mirrored
