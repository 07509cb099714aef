-- Lines read one after another, instead of all tokens at once.
use Rattle.std.specs.Prelude.{ℕ, true, false, List, [], ◌∷◌, map, filter_map, Some, None}
use Rattle.mpslp_types.specs.FaultOrder.{least_kind}
use Rattle.mpslp_types.specs.declared.faults.FaultKind.{FaultKind}
use Rattle.mpslp_lp_tokens.specs.Token.{Token}
use Rattle.mpslp_builder.specs.Declaration.{Draft}
use Rattle.mpslp_types.specs.declared.faults.Fault.{Fault}
use Rattle.mpslp_lp_grammar.specs.Rules.{Outcome}
use Rattle.mpslp_lp_grammar.specs.Rules.Outcome.{Finished, Refused}
use Rattle.mpslp_lp_grammar.specs.Terminal.{Terminal, token_fault, lexical_fault}
use Rattle.mpslp_lp_grammar.specs.TerminalToken.{as_terminal, terminals}
use Rattle.mpslp_lp_grammar.specs.declared.context.Context.{Context}
use Rattle.mpslp_lines.specs.FaultTests.{fault_on_line}
use Rattle.mpslp_lp_grammar.specs.declared.states.State.{State}
use Rattle.mpslp_lp_grammar.specs.AfterToken.{AfterToken, Goes, Refuses}
use Rattle.mpslp_lp_grammar.specs.TokenStep.{step, at_end, is_at_end}

-- tokens one after another, up to one that causes an error
abbrev pub take_all : Context → State → List Terminal → AfterToken
take_all context state [] = Goes context state
take_all context state (terminal ∷ terminals) = elim (step context state terminal) [
  | Goes after next ↦ take_all after next terminals
  | Refuses kind ↦ Refuses kind
]

-- the lexical errors of tokens
abbrev pub token_faults : List Token → List FaultKind
token_faults found = filter_map (λ (token : Token). token_fault token.kind token.text) found

-- tokens without a lexical error, or the least of these errors
abbrev pub take_tokens : Context → State → List Token → AfterToken
take_tokens context state found = elim (least_kind (token_faults found)) [
  | Some kind ↦ Refuses kind
  | None ↦ take_all context state (map as_terminal found)
]

-- a line: its own error, or the effect of its tokens
abbrev pub take_line : Context → State → List ℕ → AfterToken
take_line context state line = elim (lexical_fault line) [
  | Some kind ↦ Refuses kind
  | None ↦ take_all context state (terminals line)
]

-- lines up to that of `end`
abbrev pub read_from : Context → State → List (ℕ × List ℕ) → Outcome Fault Draft
read_from context state [] = at_end context state
read_from context state (line ∷ more) = elim (is_at_end state) [
  | true ↦ Finished context.builder
  | false ↦ elim (take_line context state line.1) [
    | Goes after next ↦ read_from after next more
    | Refuses kind ↦ Refused (fault_on_line line.0 kind)
  ]
]
