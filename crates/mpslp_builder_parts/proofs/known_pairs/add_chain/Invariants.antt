use Rattle.std.proofs.Common.{◌≡◌, ◌≢◌, ◌≤◌, ◌<◌, ◌||◌, ℕ, length}
use Rattle.std.specs.{FinMap.find, Ordering.nat_cmp, Prelude.is_some}
use Rattle.mpslp_builder_parts.specs.{CoefficientLog.chain, KnownPairs.in_pairs}
use Rattle.mpslp_builder_parts.proofs.known_pairs.add_chain.Given as goal

-- what is in the set and what is left are the pairs of the column
abbrev pub invariant-loop-at : goal.invariant-loop-at
invariant-loop-at l = record {
  within : l.at ≤ length l.log.cells;
  own : (r : ℕ) → r < 4294967296 → (in_pairs l.pairs l.column r || is_some (find nat_cmp r (chain l.log l.at)))
      ≡ (in_pairs l.fn.pairs l.column r || is_some (find nat_cmp r (chain l.log l.place)));
  others : (i r : ℕ) → r < 4294967296 → i ≢ l.column → in_pairs l.pairs i r ≡ in_pairs l.fn.pairs i r;
}

abbrev pub decreases-loop-at : goal.decreases-loop-at
decreases-loop-at l = l.at
