-- What is known of LP text that is read in pieces.
use Rattle.std.specs.Prelude.{◌≡◌, ℕ, ◌-◌, ◌^◌, ◌≤◌, Bool, List, ◌++◌}
use Rattle.std.specs.List.{enumerate_from}
use Rattle.mpslp_builder.specs.Declaration.{Draft}
use Rattle.mpslp_types.specs.declared.faults.Fault.{Fault}
use Rattle.mpslp_lp_grammar.specs.Rules.{Outcome}
use Rattle.mpslp_lp_grammar.specs.Rules.Outcome.{Refused}
use Rattle.mpslp_lp.specs.LpText.{lines_say}
use Rattle.mpslp_lp.specs.LineByLine.{read_from}
use Rattle.mpslp_lp_grammar.specs.TokenStep.{is_at_end}
use Rattle.mpslp_lp_grammar.specs.declared.context.Context.{Context}
use Rattle.mpslp_lp.specs.declared.line_reader.LineReader.{LineReader}
use Rattle.mpslp_lp_grammar.specs.declared.states.State.{State}

-- the outcome of a text of these lines
abbrev pub lines_outcome : List (List ℕ) → Outcome Fault Draft
lines_outcome text = lines_say (enumerate_from 1 text)

-- A text that begins with these lines has this error on one of them, whatever lines follow.
abbrev pub IsFaultOfLines : List (List ℕ) → Fault → Type 0
IsFaultOfLines text fault = (more : List (List ℕ)) → lines_outcome (text ++ more) ≡ Refused fault

-- The lines of the text were read and have no error. Whatever lines follow, their outcome depends only on this context, this
-- state and the number of the next line.
pub record LedTo (text : List (List ℕ)) (context : Context) (state : State) (number : ℕ) : Type 0 where
  pub counted : number ≤ 2 ^ 64 - 1
  pub decides : (more : List (List ℕ)) → lines_outcome (text ++ more) ≡ read_from context state (enumerate_from number more)

abbrev pub HasRead : LineReader → List (List ℕ) → Type 0
HasRead reader text = LedTo text reader.context reader.state reader.number

-- the line of `end` was read
abbrev pub is_ended : LineReader → Bool
is_ended reader = is_at_end reader.state
