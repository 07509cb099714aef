use Rattle.std.proofs.Common.{length}
use Rattle.mpslp_builder_parts.specs.StoredColumns.{last_of}
use Rattle.mpslp_builder_parts.proofs.PlaceLemmas.{AreDone, IsPlacing}
use Rattle.mpslp_builder_parts.proofs.grouping.places_of.Given as goal

abbrev pub invariant-loop-column : goal.invariant-loop-column
invariant-loop-column l = AreDone l.fn.links.items (last_of l.columns.entries) (length l.columns.entries) l.column
    l.next l.places.items l.ends.items

abbrev pub decreases-loop-column : goal.decreases-loop-column
decreases-loop-column l = l.column

abbrev pub invariant-loop-at : goal.invariant-loop-at
invariant-loop-at l = IsPlacing l.fn.links.items (last_of l.columns.entries) (length l.columns.entries) l.column l.at
    l.next l.places.items l.ends.items

abbrev pub decreases-loop-at : goal.decreases-loop-at
decreases-loop-at l = l.at
