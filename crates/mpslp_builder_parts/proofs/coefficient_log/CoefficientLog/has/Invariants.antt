use Rattle.std.proofs.Common.{◌≡◌, ◌≤◌, length}
use Rattle.std.specs.{FinMap.find, Ordering.nat_cmp, Prelude.is_some}
use Rattle.mpslp_builder_parts.specs.CoefficientLog.{chain}
use Rattle.mpslp_builder_parts.proofs.coefficient_log.CoefficientLog.has.Given as goal

-- what is left decides
abbrev pub invariant-loop-at : goal.invariant-loop-at
invariant-loop-at l = record {
  within : l.at ≤ length l.self.cells;
  left : is_some (find nat_cmp l.row (chain l.self l.place)) ≡ is_some (find nat_cmp l.row (chain l.self l.at));
}

abbrev pub decreases-loop-at : goal.decreases-loop-at
decreases-loop-at l = l.at
