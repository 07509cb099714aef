use Rattle.std.{proofs.Common.{drop, map, ℕ, ◌<◌, ◌≡◌}, specs.{List.range_with_len, Prelude.slice_index}}
use Rattle.mpslp_builder_parts.specs.Ordered.{front_at, name_at}
use Rattle.mpslp_builder_parts.proofs.order.fronts_of.Given as goal

abbrev pub invariant-loop-number : goal.invariant-loop-number
invariant-loop-number g l = record {
  fronts : l.fronts.items ≡ map (front_at l.entries l.shared) (range_with_len 0 l.number);
  bytes : (n i : ℕ) → n < l.number → slice_index (drop l.shared (name_at l.entries n)) i < 256;
}
