-- What the code returns for declarations that a token completes, and for a token.
use Rattle.std.specs.Prelude.{◌≡◌, nat_lt, if◌then◌else◌, ℕ, List, [], ◌∷◌, ◌++◌, true, false, Option, Some, Result, Ok, Err, None}
use Rattle.std.specs.Option.{option_map}
use Rattle.std.specs.List.{list_any}
use Rattle.mpslp_builder.specs.Declaration.{Declarations, Draft, with_declarations, bounds_declared}
use Rattle.mpslp_types.specs.Lists.{head_of}
use Rattle.mpslp_builder.specs.Refusal.{refusals_in_turn, bounds_refusals}
use Rattle.mpslp_types.specs.declared.faults.BuildFault.{BuildFault}
use Rattle.mpslp_types.specs.declared.kinds.Limit.{Limit}
use Rattle.mpslp_lines.specs.FaultTests.{kind_of_build_fault}
use Rattle.mpslp_lines.specs.LineAnswer.{LineResult}
use Rattle.mpslp_lines.specs.declared.errors.LineError.{LineError}
use Rattle.mpslp_lines.specs.declared.errors.LineError.TheVariants.{Fault, OutOfMemory}
use Rattle.mpslp_decimal.specs.Decimal.{Number}
use Rattle.mpslp_types.specs.Name.{same_bytes}
use Rattle.mpslp_types.specs.declared.faults.FaultKind.TheVariants.{DuplicateEntry}
use Rattle.mpslp_lp_grammar.specs.PartialRow.{PartialRow}
use Rattle.mpslp_lp_grammar.specs.declared.context.Context.{Context}
use Rattle.mpslp_lp_grammar.specs.declared.states.Place.{Place}
use Rattle.mpslp_lp_grammar.specs.declared.states.State.{State}
use Rattle.mpslp_lp_grammar.specs.declared.states.State.TheVariants.{Between}
use Rattle.mpslp_types.specs.FaultOrder.{kind_rank, least_kind}
use Rattle.mpslp_types.specs.declared.faults.FaultKind.{FaultKind}
use Rattle.mpslp_lp_grammar.specs.AfterToken.{AfterToken}
use Rattle.mpslp_lp_grammar.specs.AfterToken.AfterToken.{Goes, Refuses}

-- ---- declarations

-- The declarations are made if they have no errors. Otherwise their first error is returned, or the allocation failed.
abbrev pub DeclaresUnless : List BuildFault → Draft → Declarations → LineResult → Draft → Type 0
DeclaresUnless refusals earlier made (Ok _) later = (refusals ≡ []) × (later ≡ with_declarations earlier made)
DeclaresUnless refusals earlier made (Err (Fault kind)) later = option_map kind_of_build_fault (head_of refusals) ≡ Some kind
DeclaresUnless refusals earlier made (Err OutOfMemory) later = Unit {0}

-- one after another
abbrev pub Declares : Draft → Declarations → LineResult → Draft → Type 0
Declares earlier made answer later = DeclaresUnless (refusals_in_turn earlier made) earlier made answer later

-- the bounds of a column, checked together
abbrev pub DeclaresBounds : Draft → List ℕ → Option Limit → Option Limit → LineResult → Draft → Type 0
DeclaresBounds earlier column lower upper answer later =
    DeclaresUnless (bounds_refusals earlier column lower upper) earlier (bounds_declared column lower upper) answer later

-- the bounds of a column, after other declarations of it
abbrev pub DeclaresSides : Draft → Declarations → List ℕ → Option Limit → Option Limit → LineResult → Draft → Type 0
DeclaresSides earlier front column lower upper answer later =
    DeclaresUnless (bounds_refusals (with_declarations earlier front) column lower upper) earlier (front ++ bounds_declared column lower upper) answer later

-- ---- terms of a row

-- The terms get one more, of this column. It is an error if there is one already, and an allocation may fail.
abbrev pub AddsTo : List (List ℕ × Number) → List ℕ → Number → Result (List (List ℕ × Number)) LineError → Type 0
AddsTo terms column value (Ok more) = (list_any (λ term. same_bytes column term.0) terms ≡ false) × (more ≡ terms ++ (column, value) ∷ [])
AddsTo terms column value (Err (Fault kind)) = (list_any (λ term. same_bytes column term.0) terms ≡ true) × (kind ≡ DuplicateEntry)
AddsTo terms column value (Err OutOfMemory) = Unit {0}

-- The row gets a term of this column. It is an error if the row has one already, and an allocation may fail.
abbrev pub AddsTerm : PartialRow → List ℕ → Number → Result PartialRow LineError → Type 0
AddsTerm row column value (Ok more) =
    (list_any (λ term. same_bytes column term.0) row.terms ≡ false) × (more ≡ record row { terms = row.terms ++ (column, value) ∷ [] })
AddsTerm row column value (Err (Fault kind)) = (list_any (λ term. same_bytes column term.0) row.terms ≡ true) × (kind ≡ DuplicateEntry)
AddsTerm row column value (Err OutOfMemory) = Unit {0}

-- ---- a token

abbrev pub TokenResult : Type 0
TokenResult = Result State LineError

-- The token is accepted and the context is as stated, or it causes the error, or an allocation failed.
abbrev pub TakesToken : AfterToken → TokenResult → Context → Type 0
TakesToken taken (Ok state) after = taken ≡ Goes after state
TakesToken taken (Err (Fault kind)) after = taken ≡ Refuses kind
TakesToken taken (Err OutOfMemory) after = Unit {0}

-- a phrase begins at the place if the declarations were made
abbrev pub answer_at : Place → LineResult → TokenResult
answer_at place (Ok _) = Ok (Between place)
answer_at place (Err error) = Err error

-- ---- a line

-- The error of a line before tokens with these lexical errors: the least of them is reported instead. Out of memory is
-- reported at once.
abbrev pub error_before : List FaultKind → LineError → LineError
error_before faults (Fault kind) = elim (least_kind faults) [ Some own ↦ Fault own | None ↦ Fault kind ]
error_before faults OutOfMemory = OutOfMemory

-- the lesser of two kinds, of which the first is optional
abbrev pub lower_ranked_of : Option FaultKind → FaultKind → FaultKind
lower_ranked_of None second = second
lower_ranked_of (Some first) second = if nat_lt (kind_rank second) (kind_rank first) then second else first

-- The error is the least of these errors.
abbrev pub IsLeastError : List FaultKind → LineError → Type 0
IsLeastError faults (Fault kind) = least_kind faults ≡ Some kind
IsLeastError faults OutOfMemory = ⊥
