-- What is declared after an error of a call that makes several declarations in turn.
use Rattle.std.specs.Prelude.{◌≡◌, ◌⊎◌, [], ◌∷◌, ◌++◌, Some, Ok, Err}
use Rattle.mpslp_types.specs.Lists.{head_of}
use Rattle.mpslp_types.specs.declared.faults.BuildFault.{BuildFault}
use Rattle.mpslp_types.specs.declared.faults.BuildFault.TheVariants.{OutOfMemory, UnknownRow}
use Rattle.mpslp_builder.specs.Declaration.{Declaration, Declarations, Draft, with_declarations}
use Rattle.mpslp_builder.specs.Refusal.{refusals, refusals_in_turn}
use Rattle.mpslp_builder.specs.Answer.{Answer}

-- A first part of the declarations is made, of which none is rejected, and nothing else.
pub record HasFirstPart (earlier : Draft) (declarations : Declarations) (later : Draft) : Type 0 where
  pub made : Declarations
  pub left : Declarations
  pub parts : declarations ≡ made ++ left
  pub free : refusals_in_turn earlier made ≡ []
  pub declared : later ≡ with_declarations earlier made

-- The declarations before the one with this error are made, none of them is rejected, and nothing else.
pub record IsBefore (earlier : Draft) (declarations : Declarations) (fault : BuildFault) (later : Draft) : Type 0 where
  pub made : Declarations
  pub rejected : Declaration
  pub left : Declarations
  pub parts : declarations ≡ made ++ rejected ∷ left
  pub free : refusals_in_turn earlier made ≡ []
  pub declared : later ≡ with_declarations earlier made
  pub error : head_of (refusals later rejected) ≡ Some fault

-- After an error: nothing is declared if there is no such row; otherwise what comes before the declaration with the error, or a
-- first part if there is no memory.
abbrev pub IsStopped : Draft → Declarations → Answer → Draft → Type 0
IsStopped earlier declarations (Ok _) later = Unit {0}
IsStopped earlier declarations (Err fault) later =
    ((fault ≡ UnknownRow) × (later ≡ earlier)) ⊎ (IsBefore earlier declarations fault later ⊎ ((fault ≡ OutOfMemory) × HasFirstPart earlier declarations later))
