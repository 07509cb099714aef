use Rattle.std.proofs.Common.{length, ℕ, ◌<◌, ◌≤◌}
use Rattle.mpslp_builder_parts.specs.Ordered.{BeginAlike, name_at}
use Rattle.mpslp_builder_parts.proofs.order.shared_len.Given as goal

-- the names up to this one begin alike
abbrev pub invariant-loop-number : goal.invariant-loop-number
invariant-loop-number g l = record {
  within : l.shared ≤ length (name_at l.entries 0);
  alike : (n : ℕ) → n < l.number → BeginAlike l.shared (name_at l.entries 0) (name_at l.entries n);
}
