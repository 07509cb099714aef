-- The result of a reader that is given a text in pieces.
use Rattle.std.specs.Prelude.{◌≡◌, ◌++◌, ℕ, List, Bool, true, Result, Ok, Err}
use Rattle.mpslp_types.specs.declared.faults.Fault.{Fault}
use Rattle.mpslp_types.specs.declared.faults.ReadFault.{ReadFault}
use Rattle.mpslp_types.specs.declared.faults.ReadFault.TheVariants.{File, Failed, OutOfMemory}

-- A reader goes from all bytes before a piece to those with the piece; or the complete lines of these have this first error, or
-- it rejected an earlier piece. Out of memory says nothing about the bytes.
abbrev pub IsFedBy : {R : Type 0} → (R → List ℕ → Type 0) → (List ℕ → Fault → Type 0) → (R → Bool) → R → List ℕ → R → Result (Unit {0}) ReadFault → Type 0
IsFedBy after early_fault refused old piece new (Ok _) = (bytes : List ℕ) → after old bytes → after new (bytes ++ piece)
IsFedBy after early_fault refused old piece new (Err (File fault)) = (bytes : List ℕ) → after old bytes → early_fault (bytes ++ piece) fault
IsFedBy after early_fault refused old piece new (Err Failed) = refused old ≡ true
IsFedBy after early_fault refused old piece new (Err OutOfMemory) = Unit {0}
