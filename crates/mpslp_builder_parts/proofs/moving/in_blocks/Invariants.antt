use Rattle.std.proofs.Common.{length, set, ◌<◌}
use Rattle.mpslp_builder_parts.specs.Swapped.{AreSwapped}
use Rattle.mpslp_builder_parts.proofs.moving.in_blocks.Given as goal

abbrev pub invariant-loop-block-2 : goal.invariant-loop-block-2
invariant-loop-block-2 l = AreSwapped l.fn.cells.items l.fn.places.items 0 l.cells.items l.places.items

abbrev pub invariant-loop-at : goal.invariant-loop-at
invariant-loop-at l = AreSwapped l.fn.cells.items l.fn.places.items 0 l.cells.items l.places.items

abbrev pub invariant-loop : goal.invariant-loop
invariant-loop l = (l.at < length l.fn.cells.items) × AreSwapped l.fn.cells.items l.fn.places.items 0
    (set l.cells.items l.at l.held) (set l.places.items l.at l.place)
