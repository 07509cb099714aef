-- Properties of a source whose bytes are fed to a reader.
use Rattle.std.specs.Prelude.{◌≡◌, ℕ, List, ◌++◌, Bool, false, true, Option, None, Some, Result, Ok, Err, Vec}
use Rattle.std.specs.declared.alloc.Global.{Global}
use Rattle.mpslp_model_core.specs.Model.{LinearModel}
use Rattle.mpslp_types.specs.declared.faults.Fault.{Fault}
use Rattle.mpslp_model.specs.FormatParts.{Declares, HasFirstFault}
use Rattle.mpslp_conversions.specs.Runs.{IsLoad, IsLonger, SourceGave}
use Rattle.mpslp_conversions.specs.declared.faults.RunFault.{RunFault}
use Rattle.mpslp_conversions.specs.declared.faults.RunFault.TheVariants.{Read, TooLong, File, NotLp, Write, OutOfMemory}

-- The error was found in a prefix of the bytes.
pub record IsFoundIn (early_fault : List ℕ → Fault → Type 0) (fault : Fault) (bytes : List ℕ) : Type 0 where
  pub front : List ℕ
  pub more : List ℕ
  pub whole : bytes ≡ front ++ more
  pub found : early_fault front fault

-- The reader was fed these bytes; or an error was found in a prefix of them.
abbrev pub IsFedOn : {P : Type 0} → (P → List ℕ → Type 0) → (List ℕ → Fault → Type 0) → P → Option Fault → List ℕ → Type 0
IsFedOn after early_fault reader None bytes = after reader bytes
IsFedOn after early_fault reader (Some fault) bytes = IsFoundIn early_fault fault bytes

-- The model that the bytes declare, or their first error; or out of memory.
abbrev pub IsModelOf : Declares → HasFirstFault → List ℕ → Result LinearModel RunFault → Type 0
IsModelOf declares first_fault bytes (Ok m) = declares bytes m
IsModelOf declares first_fault bytes (Err Read) = ⊥
IsModelOf declares first_fault bytes (Err TooLong) = ⊥
IsModelOf declares first_fault bytes (Err (File fault)) = first_fault bytes fault
IsModelOf declares first_fault bytes (Err (NotLp name_at)) = ⊥
IsModelOf declares first_fault bytes (Err (Write written)) = ⊥
IsModelOf declares first_fault bytes (Err OutOfMemory) = Unit {0}

-- The model that all remaining bytes of a source declare, or the error. `failed` is whether the source has failed in the end.
abbrev pub IsReading : Declares → HasFirstFault → Option (List ℕ) → Option (List ℕ) → Bool → ℕ → Result LinearModel RunFault → Type 0
IsReading declares first_fault left left_now failed limit (Ok m) = (bytes : List ℕ) × SourceGave left left_now failed limit bytes × declares bytes m
IsReading declares first_fault left left_now failed limit (Err Read) = failed ≡ true
IsReading declares first_fault left left_now failed limit (Err TooLong) = (failed ≡ false) × IsLonger left limit
IsReading declares first_fault left left_now failed limit (Err (File fault)) = (bytes : List ℕ) × SourceGave left left_now failed limit bytes × first_fault bytes fault
IsReading declares first_fault left left_now failed limit (Err (NotLp name_at)) = ⊥
IsReading declares first_fault left left_now failed limit (Err (Write written)) = ⊥
IsReading declares first_fault left left_now failed limit (Err OutOfMemory) = failed ≡ false

-- The model that the bytes declare, or their first error.
abbrev pub IsModelOrFault : Declares → HasFirstFault → List ℕ → Result LinearModel Fault → Type 0
IsModelOrFault declares first_fault bytes (Ok m) = declares bytes m
IsModelOrFault declares first_fault bytes (Err fault) = first_fault bytes fault

-- What a text declares that a load of the source would return, or its first error; or the error of the load.
abbrev pub IsTextRead : Declares → HasFirstFault → Option (List ℕ) → Option (List ℕ) → Bool → ℕ → Result (Result LinearModel Fault) RunFault → Type 0
IsTextRead declares first_fault left left_now failed limit (Ok outcome) =
    (text : Vec ℕ Global) × IsLoad left left_now failed limit (Ok text) × IsModelOrFault declares first_fault text.items outcome
IsTextRead declares first_fault left left_now failed limit (Err fault) = IsLoad left left_now failed limit (Err fault)
