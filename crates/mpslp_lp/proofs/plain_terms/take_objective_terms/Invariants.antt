use Rattle.std.proofs.Common.{◌≡◌, ◌≤◌, length}
use Rattle.mpslp_lp_grammar.specs.declared.states.{Place.TheVariants.{InObjective}, State.TheVariants.{Between}}
use Rattle.mpslp_lp.specs.LineByLine.{take_tokens}
use Rattle.mpslp_lp.proofs.plain_terms.take_objective_terms.Given as goal

-- the result depends on the tokens that are left
abbrev pub invariant-terms : goal.invariant-terms
invariant-terms l = record {
  left : take_tokens l.context (Between (InObjective l.objective)) l.tokens ≡ take_tokens l.fn.context
      (Between (InObjective l.objective)) l.fn.tokens;
  fewer : length l.tokens ≤ length l.fn.tokens;
}

abbrev pub decreases-terms : goal.decreases-terms
decreases-terms l = length l.tokens
