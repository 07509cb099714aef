use Rattle.std.proofs.Common.{length, set, ◌<◌}
use Rattle.mpslp_builder_parts.specs.Swapped.{AreSwapped}
use Rattle.mpslp_builder_parts.proofs.SwapLemmas.{count_away}
use Rattle.mpslp_builder_parts.proofs.moving.at_places.Given as goal

abbrev pub invariant-loop-at : goal.invariant-loop-at
invariant-loop-at l = AreSwapped l.fn.cells.items l.fn.places.items l.at l.cells.items l.places.items

abbrev pub invariant-loop-place : goal.invariant-loop-place
invariant-loop-place l = (l.at < length l.fn.cells.items) × AreSwapped l.fn.cells.items l.fn.places.items l.at
    (set l.cells.items l.at l.held) (set l.places.items l.at l.place)

abbrev pub decreases-loop-place : goal.decreases-loop-place
decreases-loop-place l = count_away (length l.fn.cells.items) (set l.places.items l.at l.place)
