-- What one token does: the declarations that it completes, and the tokens of items and sides.
use Rattle.std.specs.Prelude.{ℕ, if◌then◌else◌, List, [], ◌∷◌, ◌++◌, None, unwrap_or}
use Rattle.std.specs.List.{list_any}
use Rattle.mpslp_decimal.specs.Decimal.{Number as Decimal}
use Rattle.mpslp_types.specs.Name.{same_bytes}
use Rattle.mpslp_types.specs.Limit.{limit_of}
use Rattle.mpslp_builder.specs.Declaration.{Declarations, with_declarations, bounds_declared}
use Rattle.mpslp_builder.specs.Refusal.{refusals_in_turn, bounds_refusals}
use Rattle.mpslp_types.specs.declared.kinds.Limit.{Limit}
use Rattle.mpslp_types.specs.declared.faults.BuildFault.{BuildFault}
use Rattle.mpslp_types.specs.declared.faults.FaultKind.{FaultKind}
use Rattle.mpslp_types.specs.declared.faults.FaultKind.TheVariants.{BadToken, DuplicateEntry}
use Rattle.mpslp_lp_grammar.specs.declared.signs.Sign.{Sign as SignOf}
use Rattle.mpslp_lp_grammar.specs.declared.signs.Sign.TheVariants.{Plus}
use Rattle.mpslp_lp_grammar.specs.Terminal.{Terminal}
use Rattle.mpslp_lines.specs.FaultTests.{kind_of_build_fault}
use Rattle.mpslp_lp_grammar.specs.declared.context.Context.{Context}
use Rattle.mpslp_lp_grammar.specs.declared.states.Place.{Place}
use Rattle.mpslp_lp_grammar.specs.declared.states.Place.TheVariants.{InObjective, BetweenRows, InRow, InBounds}
use Rattle.mpslp_lp_grammar.specs.Phrase.{terminal_fault}
use Rattle.mpslp_lp_grammar.specs.Items.{Limits, apply_sign, infinity, limits_by, one, product}
use Rattle.mpslp_lp_grammar.specs.Rows.{term_declared, row_limits, row_declared}
use Rattle.mpslp_lp_grammar.specs.declared.states.ItemOwner.{ItemOwner}
use Rattle.mpslp_lp_grammar.specs.declared.states.SideOwner.{SideOwner}
use Rattle.mpslp_lp_grammar.specs.declared.states.State.{State}
use Rattle.mpslp_lp_grammar.specs.declared.states.ItemOwner.TheVariants.{OfObjective, OfRow}
use Rattle.mpslp_lp_grammar.specs.declared.states.SideOwner.TheVariants.{SideOfRow, SideOfBound}
use Rattle.mpslp_lp_grammar.specs.TokenByToken.{new_column}
use Rattle.mpslp_lp_grammar.specs.declared.states.State.TheVariants.{Between, Signs, ItemNumber}

pub data AfterToken : Type 0 where
  -- the token is accepted, with the context and the state after it
  Goes : Context → State → AfterToken
  -- the token causes this error
  Refuses : FaultKind → AfterToken

-- a section word in the wrong place causes its own error, before any other
abbrev pub refuse : Context → Terminal → FaultKind → AfterToken
refuse context terminal kind = Refuses (unwrap_or (terminal_fault context terminal) kind)

abbrev pub with_made : Context → Declarations → Context
with_made context made = record context { builder = with_declarations context.builder made }

-- declarations that the token completes, with the errors of the builder for them
abbrev pub declare_unless_refused : Context → Terminal → List BuildFault → Place → Declarations → AfterToken
declare_unless_refused context terminal [] place made = Goes (with_made context made) (Between place)
declare_unless_refused context terminal (refusal ∷ more) place made = refuse context terminal (kind_of_build_fault refusal)

abbrev pub declare_at : Context → Terminal → Place → Declarations → AfterToken
declare_at context terminal place made = declare_unless_refused context terminal (refusals_in_turn context.builder made) place made

-- declarations that the token before this one completes, with their errors; this token is taken at the place that follows
abbrev pub step_after_declarations : Context → Terminal → List BuildFault → Declarations → AfterToken → AfterToken
step_after_declarations context terminal [] made next = next
step_after_declarations context terminal (refusal ∷ more) made next = refuse context terminal (kind_of_build_fault refusal)

-- ---- items

abbrev pub end_term : Context → ItemOwner → List ℕ → Decimal → Terminal → AfterToken
end_term context (OfObjective name) column value terminal = declare_at context terminal (InObjective name) (term_declared name (column, value))
end_term context (OfRow row) column value terminal =
    if list_any (λ term. same_bytes column term.0) row.terms then refuse context terminal DuplicateEntry
    else Goes (with_made context []) (Between (InRow (record row { terms = row.terms ++ (column, value) ∷ [] })))

-- a token of an item after its first sign
abbrev pub step_after_signs : Context → ItemOwner → SignOf → Terminal → AfterToken
step_after_signs context owner sign terminal = elim terminal as (λ _. AfterToken) [
  | Terminal.Sign more ↦ Goes context (Signs owner (product sign more))
  | Terminal.Name column ↦ end_term context owner column (apply_sign sign one) terminal
  | Terminal.Number value ↦ Goes context (ItemNumber owner sign value)
  | _ ↦ refuse context terminal BadToken
]

-- the first token of an item that may have no sign
abbrev pub begin_item : Context → ItemOwner → Terminal → AfterToken
begin_item context owner terminal = elim terminal as (λ _. AfterToken) [
  | Terminal.Sign sign ↦ Goes context (Signs owner sign)
  | Terminal.Name column ↦ end_term context owner column one terminal
  | Terminal.Number value ↦ Goes context (ItemNumber owner Plus value)
  | _ ↦ refuse context terminal BadToken
]

-- ---- sides

abbrev pub end_bound : Context → Declarations → List ℕ → Limits → Terminal → Place → AfterToken
end_bound context front column limits terminal place =
    declare_unless_refused context terminal (bounds_refusals (with_declarations context.builder front) column limits.lower limits.upper) place
    (front ++ bounds_declared column limits.lower limits.upper)

abbrev pub end_side : Context → SideOwner → Limit → Terminal → AfterToken
end_side context (SideOfRow row relation) limit terminal = declare_at context terminal BetweenRows (row_declared row (row_limits row.left relation limit))
end_side context (SideOfBound is_new column relation) limit terminal =
    end_bound context (new_column is_new column) column (limits_by relation limit) terminal (InBounds None)

-- a number or infinity, after the sign
abbrev pub step_at_side_value : (Limit → AfterToken) → Context → SignOf → Terminal → AfterToken
step_at_side_value goes context sign terminal = elim terminal as (λ _. AfterToken) [
  | Terminal.Number value ↦ goes (limit_of (apply_sign sign value))
  | Terminal.Infinity ↦ goes (infinity sign)
  | _ ↦ refuse context terminal BadToken
]
