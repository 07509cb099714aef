use Rattle.std.proofs.Common.{length, take, true, ◌-◌, ◌≡◌, ◌≤◌}
use Rattle.std.specs.List.{list_all}
use Rattle.mpslp_types.specs.ByteSets.{is_in}
use Rattle.mpslp_types.proofs.names.byte_sets.has_long.Given as goal

-- the bytes so far
abbrev pub invariant-loop-at : goal.invariant-loop-at
invariant-loop-at l = record { all : list_all (is_in l.set) (take l.at l.text) ≡ true; within : l.at ≤ length l.text }

abbrev pub decreases-loop-at : goal.decreases-loop-at
decreases-loop-at l = length l.text - l.at
