-- The effect of tokens that have no case of their own.
use Rattle.std.proofs.Common.{arith}
use Rattle.mpslp_lp_grammar.proofs.Prelude
use Prelude.{◌≡◌, ℕ, List, Sense, terminal_with_text, objective_declared, first_item_declared, default_objective, Context, SectionWord}
use Prelude.{Place, BeforeItems, InObjective, AtObjective, ObjectiveName, begin_phrase, begin, begin_phrase_after, step}
use Rattle.mpslp_lp_grammar.specs.declared.terminals.TerminalKind.{TerminalKind, TheVariants.{Opens, Name, Colon}}

-- ---- the first token of a phrase

pub begun-other : (place : Place) (context : Context) (kind : TerminalKind) (text : List ℕ) →
    ((word : SectionWord) → kind ≡ Opens word → ⊥) →
    begin place context (terminal_with_text kind text) ≡ begin_phrase place context (terminal_with_text kind text)
begun-other = grind arith

-- ---- later ones

pub objective-other : (context : Context) (goal : Sense) (kind : TerminalKind) (text : List ℕ) → (kind ≡ Name → ⊥)
    → step context (AtObjective goal) (terminal_with_text kind text)
    ≡ begin_phrase_after context (objective_declared goal default_objective) (BeforeItems default_objective)
    (terminal_with_text kind text)
objective-other = grind arith

pub objective_name-other : (context : Context) (goal : Sense) (name : List ℕ) (kind : TerminalKind) (text : List ℕ) →
    (kind ≡ Colon → ⊥) → step context (ObjectiveName goal name) (terminal_with_text kind text)
    ≡ begin_phrase_after context (first_item_declared goal name) (InObjective default_objective) (terminal_with_text kind text)
objective_name-other = grind arith
