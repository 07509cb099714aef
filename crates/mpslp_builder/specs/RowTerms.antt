-- The terms of a row, and what one call declares of them.
use Rattle.std.specs.Prelude.{◌≡◌, ◌⊎◌, ℕ, List, [], ◌∷◌, Some, Ok, Err}
use Rattle.mpslp_decimal.specs.Decimal.{Number}
use Rattle.mpslp_types.specs.Lists.{head_of}
use Rattle.mpslp_types.specs.declared.faults.BuildFault.TheVariants.{OutOfMemory}
use Rattle.mpslp_builder.specs.Declaration.{declare_column, declare_coefficient, Declarations, Draft, with_declarations}
use Rattle.mpslp_builder.specs.Refusal.{refusals_in_turn}
use Rattle.mpslp_builder.specs.Answer.{Answer}

-- a column and its coefficient in this row
abbrev pub term_declared : List ℕ → List ℕ × Number → Declarations
term_declared row term = declare_column term.0 ∷ declare_coefficient (record { row = row; column = term.0 }) term.1 ∷ []

-- The declarations are made, and none of them is rejected; or their first error is returned; or there is no memory.
abbrev pub DeclaresInTurn : Draft → Declarations → Answer → Draft → Type 0
DeclaresInTurn earlier declarations (Ok _) later = (refusals_in_turn earlier declarations ≡ []) × (later ≡ with_declarations earlier declarations)
DeclaresInTurn earlier declarations (Err fault) later = (fault ≡ OutOfMemory) ⊎ (head_of (refusals_in_turn earlier declarations) ≡ Some fault)
