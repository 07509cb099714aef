-- The outcome of LP text, and what it declares.
use Rattle.std.specs.Prelude.{ℕ, Bool, true, false, IsTrue, List, [], ◌∷◌, ◌++◌, Some, None}
use Rattle.mpslp_types.specs.Basics.{enumerate_from, lines}
use Rattle.mpslp_builder.specs.Meaning.{Means, LinearModel, Declarations, Draft}
use Rattle.mpslp_types.specs.declared.faults.Fault.{Fault}
use Rattle.mpslp_lp_grammar.specs.Terminal.{TerminalAt, line_terminals, lexical_fault}
use Rattle.mpslp_lp_grammar.specs.Phrase.{Outcome, Finished, Refused, Open}
use Rattle.mpslp_lines.specs.FaultTests.{fault_on_line}
use Rattle.mpslp_lp_grammar.specs.Grammar.{text_says, text_declares}

-- the lines with their numbers, from 1; a line ends with LF or CRLF
abbrev pub numbered_lines : List ℕ → List (ℕ × List ℕ)
numbered_lines bytes = enumerate_from 1 (lines bytes)

-- the terminals of the lines before the first one that has an error on its own
abbrev pub sound_terminals : List (ℕ × List ℕ) → List TerminalAt
sound_terminals [] = []
sound_terminals (line ∷ more) = elim (lexical_fault line.1) [
  | Some kind ↦ []
  | None ↦ line_terminals line ++ sound_terminals more
]

-- the first line that has an error on its own
abbrev pub first_own_fault : List (ℕ × List ℕ) → Outcome Fault Draft
first_own_fault [] = Open
first_own_fault (line ∷ more) = elim (lexical_fault line.1) [
  | Some kind ↦ Refused (fault_on_line line.0 kind)
  | None ↦ first_own_fault more
]

-- the first outcome, or the second if the text is incomplete
abbrev pub or_else : Outcome Fault Draft → Outcome Fault Draft → Outcome Fault Draft
or_else Open other = other
or_else (Finished all) other = Finished all
or_else (Refused fault) other = Refused fault

-- If the lines before the first one with an error on its own neither reach `end` nor have an error, that line decides. So
-- the lines after `end` are ignored.
abbrev pub lines_say : List (ℕ × List ℕ) → Outcome Fault Draft
lines_say numbered = or_else (text_says (sound_terminals numbered)) (first_own_fault numbered)

abbrev pub outcome : List ℕ → Outcome Fault Draft
outcome bytes = lines_say (numbered_lines bytes)

abbrev pub is_finished : Outcome Fault Draft → Bool
is_finished (Finished all) = true
is_finished _ = false

-- The text reaches `end`, and no line and no token before it has an error. So each line, name and number that is read is
-- within its limits.
abbrev pub is_lp_text : List ℕ → Bool
is_lp_text bytes = is_finished (outcome bytes)

abbrev pub declarations_of : List ℕ → Declarations
declarations_of bytes = text_declares (sound_terminals (numbered_lines bytes))

-- The bytes declare the model in LP.
pub record DeclaresLp (bytes : List ℕ) (m : LinearModel) : Type 0 where
  pub text : IsTrue (is_lp_text bytes)
  pub means : Means (declarations_of bytes) m
