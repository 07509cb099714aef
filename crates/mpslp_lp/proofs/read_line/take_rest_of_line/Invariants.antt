use Rattle.mpslp_lp.proofs.Prelude.{◌≡◌, ◌∷◌, length, token_of, take_tokens}
use Rattle.mpslp_lp.proofs.read_line.take_rest_of_line.Given as goal

-- the result depends on the tokens that are left
abbrev pub invariant-tokens : goal.invariant-tokens
invariant-tokens l = record {
  left : take_tokens l.context l.state (token_of l.raw_token ∷ l.tokens)
      ≡ take_tokens l.fn.context l.fn.state (token_of l.fn.first ∷ l.fn.left);
}

abbrev pub decreases-tokens : goal.decreases-tokens
decreases-tokens l = length l.tokens
