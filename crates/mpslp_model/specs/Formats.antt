-- The results of a format's calls.
use Rattle.std.specs.Prelude.{◌≡◌, ℕ, List, Bool, true, Option, None, Some, Result, Ok, Err}
use Rattle.mpslp_model_core.specs.Model.{LinearModel}
use Rattle.mpslp_io.specs.Devices.{Grows, TookFirst}
use Rattle.mpslp_types.specs.declared.faults.Fault.{Fault}
use Rattle.mpslp_types.specs.declared.faults.NameAt.{NameAt}
use Rattle.mpslp_types.specs.declared.faults.ReadFault.{ReadFault}
use Rattle.mpslp_types.specs.declared.faults.ReadFault.TheVariants.{File, Failed, OutOfMemory}
use Rattle.mpslp_types.specs.declared.faults.WriteFault.{WriteFault}
use Rattle.mpslp_types.specs.declared.faults.WriteFault.TheVariants.{Write, NotLp}

-- The model that the bytes declare, or their first error. Out of memory says nothing about the bytes.
abbrev pub IsAnswerTo : (List ℕ → LinearModel → Type 0) → (List ℕ → Fault → Type 0) → List ℕ → Result LinearModel ReadFault → Type 0
IsAnswerTo declares first_fault bytes (Ok m) = declares bytes m
IsAnswerTo declares first_fault bytes (Err (File fault)) = first_fault bytes fault
IsAnswerTo declares first_fault bytes (Err Failed) = ⊥
IsAnswerTo declares first_fault bytes (Err OutOfMemory) = Unit {0}

-- The text of a model was written, or a prefix of it before the sink failed; or the sink was not called, because a name of the
-- model is not legal in the format.
abbrev pub IsWritten : {S : Type 0} → (LinearModel → Option NameAt) → (LinearModel → List ℕ) → (S → List ℕ → Type 0) → (S → Bool) → LinearModel → S → S
    → Result (Unit {0}) WriteFault → Type 0
IsWritten unfit text holds failed m old new (Ok _) = (unfit m ≡ None) × Grows holds old new (text m)
IsWritten unfit text holds failed m old new (Err (Write written)) = (unfit m ≡ None) × (failed new ≡ true) × TookFirst holds old new (text m) written
IsWritten unfit text holds failed m old new (Err (NotLp place)) = (unfit m ≡ Some place) × (new ≡ old)
