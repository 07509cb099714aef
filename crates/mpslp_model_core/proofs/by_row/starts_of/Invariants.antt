use Rattle.std.proofs.Common.{◌≡◌, ℕ, ◌<◌, ◌≤◌, length, take, get_or, sum}
use Rattle.mpslp_model_core.proofs.by_row.starts_of.Given as goal

-- the counts before this one are replaced
abbrev pub invariant-loop-i : goal.invariant-loop-i
invariant-loop-i l = record {
  len : length l.counts.items ≡ length l.fn.counts.items;
  total : l.total ≡ sum (take l.i l.fn.counts.items);
  done : (k : ℕ) → k < l.i → get_or l.counts.items k 0 ≡ sum (take k l.fn.counts.items);
  left : (k : ℕ) → l.i ≤ k → get_or l.counts.items k 0 ≡ get_or l.fn.counts.items k 0;
}
