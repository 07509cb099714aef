-- Laws of the grammar.
use Rattle.std.specs.Prelude.{◌≡◌, ℕ, List, [], ◌∷◌}
use Rattle.mpslp_lp_grammar.specs.Terminal.{TerminalAt}
use Rattle.mpslp_lp_grammar.specs.declared.context.Context.{Context}
use Rattle.mpslp_lp_grammar.specs.declared.states.State.{State}
use Rattle.mpslp_lp_grammar.specs.TokenByToken.{says}
use Rattle.mpslp_lp_grammar.specs.TokenStep.{step, says_after, at_end}

-- What the rules say of some tokens in a state is what they say of the tokens after the first one, in the state that this one
-- leads to, or the error of this one.
abbrev pub StepsFollowRules : Type 0
StepsFollowRules = (context : Context) (state : State) (token : TerminalAt) (tokens : List TerminalAt)
    → says token.line context state (token ∷ tokens) ≡ says_after token.line (step context state token.terminal) tokens

-- A text may end only after its `end`.
abbrev pub TextsEndAfterEnd : Type 0
TextsEndAfterEnd = (context : Context) (state : State) (line : ℕ) → says line context state [] ≡ at_end context state
