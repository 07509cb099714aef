use Rattle.std.proofs.Common.{arith, ap, sym, subst, get_or, length, set, ◌+◌, ◌≡◌, ◌∙◌, ◌<◌, ℕ}
use Rattle.std.proofs.lemmas.List.{get_or_read, set-get_or}
use Rattle.mpslp_decimal.specs.Decimal.{Number}
use Rattle.mpslp_builder_parts.specs.Swapped.{AreSwapped}
use Rattle.mpslp_builder_parts.proofs.SwapLemmas.{first_held, fewer_away, all_home, next_home, to_within, was_away}
use Rattle.mpslp_builder_parts.proofs.SwapLemmas.{to_left, held_in, held_places_in, held_place, held_moved}
use Rattle.mpslp_builder_parts.proofs.SwapLemmas.{places_mirrored}
use Rattle.mpslp_builder_parts.proofs.moving.at_places.Goals.{then-place-at+else-loop-place-test, else-place-at}
use Rattle.mpslp_builder_parts.proofs.moving.at_places.Goals as goal

pub loop-place-init : goal.loop-place-init
loop-place-init c = (
  (let inside = c.loop-at-test.true in
      let len = c.len-at-end.ensures in
      let whole = c.in_blocks-cells.ensures.len in omega (arith, inside, len, whole)),
  subst (λ v. AreSwapped c.args.cells.items c.args.places.items c.loop-at.at v
      (set c.loop-at.places.items c.loop-at.at c.index-place.result.now))
      (sym (first_held c.loop-at.cells.items c.loop-at.at c.replace-held.new.dest c.replace-held.result
      (grind (arith, c.replace-held.ensures.value, c.index_mut.ensures.value))))
      (subst (λ v. AreSwapped c.args.cells.items c.args.places.items c.loop-at.at c.loop-at.cells.items v)
      (sym (ap (set c.loop-at.places.items c.loop-at.at) c.index-place.ensures ∙ set-get_or c.loop-at.places.items
      c.loop-at.at c.index-place.result.now)) c.loop-at.invariant),
)

pub index_mut-requires-in-loop-place : goal.index_mut-requires-in-loop-place
index_mut-requires-in-loop-place c =
    let inside = held_in _ _ _ _ _ _ _ _ c.loop-place.invariant.1 c.loop-place.invariant.0 c.loop-place.place
    (to_within _ _ _ _ _ c.loop-place.invariant.1 c.loop-place.invariant.0 _
    (held_place _ _ _ _ _ _ _ _ c.loop-place.invariant.1 c.loop-place.invariant.0) c.loop-place-test.true) in
    omega (arith, inside)

pub index_mut-requires-in-loop-place-2 : goal.index_mut-requires-in-loop-place-2
index_mut-requires-in-loop-place-2 c =
    let inside = held_places_in _ _ _ _ _ _ _ _ c.loop-place.invariant.1 c.loop-place.invariant.0 c.loop-place.place
    (to_within _ _ _ _ _ c.loop-place.invariant.1 c.loop-place.invariant.0 _
    (held_place _ _ _ _ _ _ _ _ c.loop-place.invariant.1 c.loop-place.invariant.0) c.loop-place-test.true) in
    omega (arith, inside)

-- the item that is held is moved to its place
abbrev Moved : Type 0
Moved = goal.After-places-in-loop-place-2-1

is_own : (c : Moved) → c.loop-place.place ≡ get_or (set c.loop-place.places.items c.loop-at.at c.loop-place.place) c.loop-at.at 0
is_own c = held_place _ _ _ _ _ _ _ _ c.loop-place.invariant.1 c.loop-place.invariant.0

within : (c : Moved) → c.loop-place.place < length c.args.cells.items
within c = to_within _ _ _ _ _ c.loop-place.invariant.1 c.loop-place.invariant.0 _ (is_own c) c.loop-place-test.true

item_read : (c : Moved) → (d : ℕ × Number) →
    c.replace-held-in-loop-place.result ≡ get_or c.loop-place.cells.items c.loop-place.place d
item_read c d = c.replace-held-in-loop-place.ensures.value ∙ get_or_read c.loop-place.cells.items c.loop-place.place
    c.index_mut-in-loop-place.result.now (held_in _ _ _ _ _ _ _ _ c.loop-place.invariant.1 c.loop-place.invariant.0
    c.loop-place.place (within c)) c.index_mut-in-loop-place.ensures.value d

place_read : (c : Moved) → (d : ℕ) → c.replace-place.result ≡ get_or c.loop-place.places.items c.loop-place.place d
place_read c d = c.replace-place.ensures.value ∙ get_or_read c.loop-place.places.items c.loop-place.place
    c.index_mut-in-loop-place-2.result.now
    (held_places_in _ _ _ _ _ _ _ _ c.loop-place.invariant.1 c.loop-place.invariant.0 c.loop-place.place (within c))
    c.index_mut-in-loop-place-2.ensures.value d

pub loop-place-smaller : goal.loop-place-smaller
loop-place-smaller c = fewer_away (set c.loop-place.places.items c.loop-at.at c.loop-place.place) _ c.loop-at.at
    c.loop-place.place (length c.args.cells.items) (within c) (is_own c) c.loop-place-test.true
    (was_away _ _ _ _ _ c.loop-place.invariant.1 c.loop-place.invariant.0 _ (is_own c) c.loop-place-test.true)
    (places_mirrored _ _ _ _ _ _ _ _ c.loop-place.invariant.1 c.loop-place.invariant.0 c.loop-place.place (within c)
    c.loop-place-test.true c.replace-held-in-loop-place.new.dest c.replace-held-in-loop-place.result
    c.replace-place.new.dest c.replace-place.result c.replace-held-in-loop-place.ensures.after (item_read c)
    c.replace-place.ensures.after (place_read c))

pub loop-place-preserved : goal.loop-place-preserved
loop-place-preserved c = (
  c.loop-place.invariant.0,
  held_moved _ _ _ _ _ _ _ _ c.loop-place.invariant.1 c.loop-place.invariant.0 c.loop-place.place (within c)
      c.loop-place-test.true c.replace-held-in-loop-place.new.dest c.replace-held-in-loop-place.result
      c.replace-place.new.dest c.replace-place.result c.replace-held-in-loop-place.ensures.after (item_read c)
      c.replace-place.ensures.after (place_read c) (omega arith)
      (to_left _ _ _ _ _ c.loop-place.invariant.1 c.loop-place.invariant.0 _ (is_own c) c.loop-place-test.true),
)

pub returns-clause-moved : goal.returns-clause-moved
returns-clause-moved c =
    all_home c.args.cells.items c.args.places.items c.loop-at.at c.loop-at.cells.items c.loop-at.places.items c.loop-at.invariant
    (let whole = c.loop-at-test.false in
    let len = c.len-at-end.ensures in
    let all = c.in_blocks-cells.ensures.len in omega (arith, whole, len, all))

pub loop-at-preserved : goal.loop-at-preserved
loop-at-preserved c = elim c.if-place-at.branch [
  | then-place-at+else-loop-place-test w ↦
      let home = next_home c.args.cells.items c.args.places.items c.loop-at.at _ _ w.loop-place.invariant.1
      (sym (held_place _ _ _ _ _ _ _ _ w.loop-place.invariant.1 w.loop-place.invariant.0) ∙ w.loop-place-test.false) in
      subst (λ v. AreSwapped c.args.cells.items c.args.places.items (c.loop-at.at + 1) v.items
      c.if-place-at.places.items) (sym w.cells-is)
      (subst (λ v. AreSwapped c.args.cells.items c.args.places.items (c.loop-at.at + 1)
      (set w.loop-place.cells.items c.loop-at.at w.loop-place.held) v.items) (sym w.places-is) home)
  | else-place-at w ↦
      let home = next_home c.args.cells.items c.args.places.items c.loop-at.at c.loop-at.cells.items
      c.loop-at.places.items c.loop-at.invariant
      (sym (get_or_read c.loop-at.places.items c.loop-at.at c.index-place.result.now (let inside = c.loop-at-test.true in
      let len = c.len-at-end.ensures in
      let whole = c.in_blocks-cells.ensures.len in
      let places = c.loop-at.invariant.places_len in omega (arith, inside, len, whole, places)) c.index-place.ensures 0)
      ∙ w.if-place-at.false) in
      subst (λ v. AreSwapped c.args.cells.items c.args.places.items (c.loop-at.at + 1) v.items
      c.if-place-at.places.items) (sym w.cells-is)
      (subst (λ v. AreSwapped c.args.cells.items c.args.places.items (c.loop-at.at + 1) c.loop-at.cells.items
      v.items) (sym w.places-is) home)
]
