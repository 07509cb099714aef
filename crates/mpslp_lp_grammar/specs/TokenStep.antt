-- What a reader does with one token.
use Rattle.std.specs.Prelude.{ℕ, Bool, true, false, if◌then◌else◌, List, [], ◌∷◌, Some, None}
use Rattle.mpslp_decimal.specs.Decimal.{Number as Decimal}
use Rattle.mpslp_types.specs.Limit.{limit_of}
use Rattle.mpslp_builder.specs.Declaration.{declare_column, declare_constant, Declarations, Draft}
use Rattle.mpslp_builder.specs.Refusal.{refusals_in_turn}
use Rattle.mpslp_types.specs.declared.faults.Fault.{Fault}
use Rattle.mpslp_types.specs.declared.faults.FaultKind.TheVariants.{BadToken, ConstantInRow}
use Rattle.mpslp_lp_grammar.specs.declared.signs.Sign.TheVariants.{Plus, Minus}
use Rattle.mpslp_lp_grammar.specs.declared.states.Place.{Place}
use Rattle.mpslp_lp_grammar.specs.Rules.{Outcome}
use Rattle.mpslp_lp_grammar.specs.Rules.Outcome.{Finished, Refused, Open}
use Rattle.mpslp_lp_grammar.specs.Terminal.{TerminalAt, Terminal}
use Rattle.mpslp_lp_grammar.specs.declared.context.Context.{Context}
use Rattle.mpslp_lp_grammar.specs.declared.states.Place.TheVariants.{BeforeItems, InObjective, InRow, InBounds, InSemis}
use Rattle.mpslp_lp_grammar.specs.declared.states.LastWord.TheVariants.{Continuous}
use Rattle.mpslp_lp_grammar.specs.Grammar.{is_last_word, opened_by, no_limits}
use Rattle.mpslp_lines.specs.FaultTests.{fault_on_line}
use Rattle.mpslp_lp_grammar.specs.Items.{apply_sign, infinity, limits_by, flip, one}
use Rattle.mpslp_lp_grammar.specs.Rows.{objective_declared, first_item_declared, default_objective, default_row, without_terms}
use Rattle.mpslp_lp_grammar.specs.declared.states.ItemOwner.{ItemOwner}
use Rattle.mpslp_lp_grammar.specs.declared.states.State.{State}
use Rattle.mpslp_lp_grammar.specs.declared.states.ItemOwner.TheVariants.{OfObjective, OfRow}
use Rattle.mpslp_lp_grammar.specs.declared.states.SideOwner.TheVariants.{SideOfBound}
use Rattle.mpslp_lp_grammar.specs.TokenByToken.{says}
use Rattle.mpslp_lp_grammar.specs.declared.states.State.TheVariants.{Between, AtObjective, ObjectiveName, AtLastWord, AtSemi, Signs, ItemNumber, RowName, RowLabel, RowSign, RowNumber, RowLeft, RowLeftRelation, BoundName, BoundSign, BoundLeft, BoundLeftRelation, AtSide, SideSign, AfterEnd}
use Rattle.mpslp_lp_grammar.specs.AfterToken.{AfterToken, refuse, with_made, end_term, step_after_signs, begin_item, end_bound, end_side, step_at_side_value, step_after_declarations, declare_at, Goes, Refuses}
use Rattle.mpslp_lp_grammar.specs.FirstToken.{begin_row, begin}

-- ---- a token that completes what is before it, and is taken at the place that follows

-- after declarations that the token completes
abbrev pub begin_phrase_after : Context → Declarations → Place → Terminal → AfterToken
begin_phrase_after context made place terminal =
    step_after_declarations context terminal (refusals_in_turn context.builder made) made (begin place (with_made context made) terminal)

-- a number in a row that no name follows
abbrev pub refuse_constant : Context → Terminal → AfterToken
refuse_constant context terminal = elim terminal as (λ _. AfterToken) [
  | Terminal.Sign sign ↦ refuse context terminal ConstantInRow
  | Terminal.Compares relation ↦ refuse context terminal ConstantInRow
  | _ ↦ refuse context terminal BadToken
]

-- a number that no name follows
abbrev pub step_after_lone_number : Context → ItemOwner → Decimal → Terminal → AfterToken
step_after_lone_number context (OfObjective name) value terminal = elim terminal as (λ _. AfterToken) [
  | Terminal.Sign sign ↦ begin_phrase_after context (declare_constant value ∷ []) (InObjective name) terminal
  | Terminal.Opens word ↦ begin_phrase_after context (declare_constant value ∷ []) (InObjective name) terminal
  | _ ↦ refuse context terminal BadToken
]
step_after_lone_number context (OfRow row) value terminal = refuse_constant context terminal

abbrev pub step : Context → State → Terminal → AfterToken
step context (Between place) terminal = begin place context terminal
step context (AtObjective sense) terminal = elim terminal as (λ _. AfterToken) [
  | Terminal.Name name ↦ Goes context (ObjectiveName sense name)
  | _ ↦ begin_phrase_after context (objective_declared sense default_objective) (BeforeItems default_objective) terminal
]
step context (ObjectiveName sense name) terminal = elim terminal as (λ _. AfterToken) [
  | Terminal.Colon ↦ declare_at context terminal (BeforeItems name) (objective_declared sense name)
  | _ ↦ begin_phrase_after context (first_item_declared sense name) (InObjective default_objective) terminal
]
step context (AtLastWord wanted) terminal = elim terminal as (λ _. AfterToken) [
  | Terminal.Name word ↦ if is_last_word wanted word then Goes (with_made context []) (Between (opened_by wanted)) else refuse context terminal BadToken
  | _ ↦ refuse context terminal BadToken
]
step context AtSemi terminal = elim terminal as (λ _. AfterToken) [
  | Terminal.Sign Plus ↦ begin InSemis (with_made context []) terminal
  | Terminal.Sign Minus ↦ Goes context (AtLastWord Continuous)
  | _ ↦ begin InSemis (with_made context []) terminal
]
step context (Signs owner sign) terminal = step_after_signs context owner sign terminal
step context (ItemNumber owner sign value) terminal = elim terminal as (λ _. AfterToken) [
  | Terminal.Name column ↦ end_term context owner column (apply_sign sign value) terminal
  | _ ↦ step_after_lone_number context owner (apply_sign sign value) terminal
]
step context (RowName name) terminal = elim terminal as (λ _. AfterToken) [
  | Terminal.Colon ↦ Goes context (RowLabel name)
  | _ ↦ begin (InRow (record { name = default_row context; left = None; terms = (name, one) ∷ [] })) (with_made context []) terminal
]
step context (RowLabel name) terminal = begin_row context name terminal
step context (RowSign name sign) terminal = elim terminal as (λ _. AfterToken) [
  | Terminal.Infinity ↦ Goes context (RowLeft name (infinity sign))
  | Terminal.Number value ↦ Goes context (RowNumber name sign value)
  | _ ↦ step_after_signs context (OfRow (without_terms name None)) sign terminal
]
step context (RowNumber name sign value) terminal = elim terminal as (λ _. AfterToken) [
  | Terminal.Name column ↦ end_term context (OfRow (without_terms name None)) column (apply_sign sign value) terminal
  | Terminal.Compares relation ↦ Goes context (RowLeftRelation (without_terms name (Some (limit_of (apply_sign sign value), relation))))
  | _ ↦ step_after_lone_number context (OfRow (without_terms name None)) (apply_sign sign value) terminal
]
step context (RowLeft name limit) terminal = elim terminal as (λ _. AfterToken) [
  | Terminal.Compares relation ↦ Goes context (RowLeftRelation (without_terms name (Some (limit, relation))))
  | _ ↦ refuse context terminal BadToken
]
step context (RowLeftRelation row) terminal = begin_item context (OfRow row) terminal
step context (BoundName column) terminal = elim terminal as (λ _. AfterToken) [
  | Terminal.Free ↦ end_bound context (declare_column column ∷ []) column no_limits terminal (InBounds None)
  | Terminal.Compares relation ↦ Goes context (AtSide (SideOfBound true column relation))
  | _ ↦ refuse context terminal BadToken
]
step context (BoundSign sign) terminal = step_at_side_value (λ limit. Goes context (BoundLeft limit)) context sign terminal
step context (BoundLeft limit) terminal = elim terminal as (λ _. AfterToken) [
  | Terminal.Compares relation ↦ Goes context (BoundLeftRelation limit relation)
  | _ ↦ refuse context terminal BadToken
]
step context (BoundLeftRelation limit relation) terminal = elim terminal as (λ _. AfterToken) [
  | Terminal.Name column ↦ end_bound context (declare_column column ∷ []) column (limits_by (flip relation) limit) terminal (InBounds (Some (column, relation)))
  | _ ↦ refuse context terminal BadToken
]
step context (AtSide sided) terminal = elim terminal as (λ _. AfterToken) [
  | Terminal.Sign sign ↦ Goes context (SideSign sided sign)
  | _ ↦ step_at_side_value (λ limit. end_side context sided limit terminal) context Plus terminal
]
step context (SideSign sided sign) terminal = step_at_side_value (λ limit. end_side context sided limit terminal) context sign terminal
-- `end` must be the last token of its line
step context AfterEnd terminal = refuse context terminal BadToken

-- the outcome of the tokens after one on this line
abbrev pub says_after : (line : ℕ) → AfterToken → List TerminalAt → Outcome Fault Draft
says_after line (Goes context state) tokens = says line context state tokens
says_after line (Refuses kind) tokens = Refused (fault_on_line line kind)

-- `end` was the last token
abbrev pub is_at_end : State → Bool
is_at_end AfterEnd = true
is_at_end _ = false

-- the outcome at the end of the tokens
abbrev pub at_end : Context → State → Outcome Fault Draft
at_end context AfterEnd = Finished context.builder
at_end context _ = Open
