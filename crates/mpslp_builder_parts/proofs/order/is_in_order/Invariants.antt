use Rattle.std.proofs.Common.{ℕ, false, ◌+◌, ◌<◌, ◌≡◌}
use Rattle.std.specs.Ordering.{is_lt}
use Rattle.mpslp_types.specs.Name.{bytes_cmp}
use Rattle.mpslp_builder_parts.specs.Ordered.{name_at}
use Rattle.mpslp_builder_parts.proofs.order.is_in_order.Given as goal

-- no name up to this one is below the one before it
abbrev pub invariant-loop-number : goal.invariant-loop-number
invariant-loop-number g l = (k : ℕ) → k + 1 < l.number →
    is_lt (bytes_cmp (name_at l.entries (k + 1)) (name_at l.entries k)) ≡ false
