use Rattle.std.proofs.Common.{get_or, length, ℕ, ◌+◌, ◌<◌, ◌≡◌}
use Rattle.mpslp_builder_parts.proofs.ranks.ranks_of.Given as goal

abbrev pub invariant-loop-place : goal.invariant-loop-place
invariant-loop-place l = record {
  objective : get_or l.ranks.items 0 0 ≡ 0;
  done : (p : ℕ) → p < l.place → get_or l.ranks.items (get_or l.order p 0 + 1) 0 ≡ p + 1;
  len : length l.ranks.items ≡ length l.order + 1;
}
