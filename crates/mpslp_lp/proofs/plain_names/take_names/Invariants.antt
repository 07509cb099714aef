use Rattle.mpslp_lp.proofs.Prelude.{◌≡◌, ◌≤◌, length, take_tokens, listed_at, Between}
use Rattle.mpslp_lp.proofs.plain_names.take_names.Given as goal

-- the result depends on the tokens that are left
abbrev pub invariant-names : goal.invariant-names
invariant-names l = record {
  left : take_tokens l.context (Between (listed_at l.section)) l.tokens ≡ take_tokens l.fn.context
      (Between (listed_at l.section)) l.fn.tokens;
  fewer : length l.tokens ≤ length l.fn.tokens;
}

abbrev pub decreases-names : goal.decreases-names
decreases-names l = length l.tokens
