use Rattle.std.proofs.Common.{arith, ap, sym, subst, length, get_or, set, ◌<◌, ◌∙◌, ℕ}
use Rattle.mpslp_builder_parts.specs.Swapped.{AreSwapped}
use Rattle.std.proofs.lemmas.List.{get_or_read, set-get_or}
use Rattle.mpslp_builder_parts.proofs.SwapLemmas.{none_swapped, first_held, held_in, held_places_in, held_moved}
use Rattle.mpslp_builder_parts.proofs.moving.in_blocks.Goals as goal

pub returns-then-not-need_blocks : goal.returns-then-not-need_blocks
returns-then-not-need_blocks c = none_swapped c.args.cells.items c.args.places.items c.requires.len c.requires.within
    c.requires.apart

pub loop-block-2-init : goal.loop-block-2-init
loop-block-2-init c = none_swapped c.args.cells.items c.args.places.items c.requires.len c.requires.within c.requires.apart

pub loop-init : goal.loop-init
loop-init c = (
  (let inside = c.loop-at-test.true in
      let least = c.min-end.ensures in
      let len = c.len-count.ensures in grind (arith, inside, least, len)),
  subst (λ v. AreSwapped c.args.cells.items c.args.places.items 0 v
      (set c.loop-at.places.items c.loop-at.at c.index-place.result.now))
      (sym (first_held c.loop-at.cells.items c.loop-at.at c.replace-held.new.dest c.replace-held.result
      (grind (arith, c.replace-held.ensures.value, c.index_mut.ensures.value))))
      (subst (λ v. AreSwapped c.args.cells.items c.args.places.items 0 c.loop-at.cells.items v)
      (sym (ap (set c.loop-at.places.items c.loop-at.at) c.index-place.ensures ∙ set-get_or c.loop-at.places.items
      c.loop-at.at c.index-place.result.now)) c.loop-at.invariant),
)

pub loop-preserved : goal.loop-preserved
loop-preserved c = (
  c.loop.invariant.0,
  held_moved _ _ _ _ _ _ _ _ c.loop.invariant.1 c.loop.invariant.0 head below c.if-head-at.false
      c.replace-held-in-loop.new.dest c.replace-held-in-loop.result c.replace-place.new.dest c.replace-place.result
      c.replace-held-in-loop.ensures.after
      (λ d. c.replace-held-in-loop.ensures.value ∙ get_or_read c.loop.cells.items head c.index_mut-in-loop.result.now
      (held_in _ _ _ _ _ _ _ _ c.loop.invariant.1 c.loop.invariant.0 head below) c.index_mut-in-loop.ensures.value d)
      c.replace-place.ensures.after
      (λ d. c.replace-place.ensures.value ∙ get_or_read c.loop.places.items head c.index_mut-in-loop-2.result.now
      (held_places_in _ _ _ _ _ _ _ _ c.loop.invariant.1 c.loop.invariant.0 head below) c.index_mut-in-loop-2.ensures.value d)
      (omega arith) (omega arith),
)
  where
    head : ℕ
    head = get_or c.loop.heads c.min-own.result 0

    below : head < length c.args.cells.items
    below = let room = c.if-head-count.false in
        let len = c.len-count.ensures in omega (arith, room, len)
