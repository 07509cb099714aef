-- The results of the conversions and comparisons of whole texts, for any formats.
use Rattle.std.specs.Prelude.{◌≡◌, ◌≢◌, ◌⊎◌, ℕ, List, Bool, true, false, None, Some, Result, Ok, Err, Vec}
use Rattle.std.specs.Bool.{Decides}
use Rattle.std.specs.declared.alloc.Global.{Global}
use Rattle.mpslp_model_core.specs.Model.{LinearModel}
use Rattle.mpslp_conversions.specs.declared.faults.ConvertFault.{ConvertFault}
use Rattle.mpslp_conversions.specs.declared.faults.ConvertFault.TheVariants.{First, Second, NotLp, OutOfMemory}
use Rattle.mpslp_model.specs.FormatParts.{Declares, HasFirstFault, Unfit, TextOf}

-- The result is this error, or out of memory.
abbrev pub IsErrUnless : {T E : Type 0} → Result T E → E → E → Type 0
IsErrUnless (Ok _) fault memory = ⊥
IsErrUnless (Err found) fault memory = (found ≡ fault) ⊎ (found ≡ memory)

-- The model that the first text declares, or its first error.
abbrev pub IsReadingOfFirst : Declares → HasFirstFault → List ℕ → Result LinearModel ConvertFault → Type 0
IsReadingOfFirst declares first_fault bytes (Ok m) = declares bytes m
IsReadingOfFirst declares first_fault bytes (Err (First fault)) = first_fault bytes fault
IsReadingOfFirst declares first_fault bytes (Err (Second fault)) = ⊥
IsReadingOfFirst declares first_fault bytes (Err (NotLp name_at)) = ⊥
IsReadingOfFirst declares first_fault bytes (Err OutOfMemory) = Unit {0}

-- The text of a model, or the first name that is not legal in the format.
abbrev pub IsText : Unfit → TextOf → LinearModel → Result (Vec ℕ Global) ConvertFault → Type 0
IsText unfit text m (Ok out) = (unfit m ≡ None) × (out.items ≡ text m)
IsText unfit text m (Err (First fault)) = ⊥
IsText unfit text m (Err (Second fault)) = ⊥
IsText unfit text m (Err (NotLp name_at)) = unfit m ≡ Some name_at
IsText unfit text m (Err OutOfMemory) = Unit {0}

-- The bytes declare a model in one format whose names are legal in the other, and the result is its text there. Or the result
-- is the first error of the bytes, or the first name of the model that is not legal in the other format.
abbrev pub IsConversion : Declares → HasFirstFault → Unfit → TextOf → List ℕ → Result (Vec ℕ Global) ConvertFault → Type 0
IsConversion declares first_fault unfit text bytes (Ok out) =
    (m : LinearModel) × declares bytes m × (unfit m ≡ None) × (out.items ≡ text m)
IsConversion declares first_fault unfit text bytes (Err (First fault)) = first_fault bytes fault
IsConversion declares first_fault unfit text bytes (Err (Second fault)) = ⊥
IsConversion declares first_fault unfit text bytes (Err (NotLp name_at)) = (m : LinearModel) × declares bytes m × (unfit m ≡ Some name_at)
IsConversion declares first_fault unfit text bytes (Err OutOfMemory) = Unit {0}

-- Whether a second text declares this model; or its first error.
abbrev pub IsTestOfModel : Declares → HasFirstFault → LinearModel → List ℕ → Result Bool ConvertFault → Type 0
IsTestOfModel declares first_fault m bytes (Ok same) = (n : LinearModel) × declares bytes n × Decides same (m ≡ n)
IsTestOfModel declares first_fault m bytes (Err (First fault)) = ⊥
IsTestOfModel declares first_fault m bytes (Err (Second fault)) = first_fault bytes fault
IsTestOfModel declares first_fault m bytes (Err (NotLp name_at)) = ⊥
IsTestOfModel declares first_fault m bytes (Err OutOfMemory) = Unit {0}

-- Whether two texts declare the same model; or the first error of the first text; or, if the first has none, that of the
-- second.
abbrev pub IsComparison : Declares → HasFirstFault → Declares → HasFirstFault → List ℕ → List ℕ → Result Bool ConvertFault → Type 0
IsComparison declares first_fault declares' first_fault' first second (Ok true) =
    (m : LinearModel) × declares first m × declares' second m
IsComparison declares first_fault declares' first_fault' first second (Ok false) =
    (m : LinearModel) × (n : LinearModel) × declares first m × declares' second n × (m ≢ n)
IsComparison declares first_fault declares' first_fault' first second (Err (First fault)) = first_fault first fault
IsComparison declares first_fault declares' first_fault' first second (Err (Second fault)) =
    (m : LinearModel) × declares first m × first_fault' second fault
IsComparison declares first_fault declares' first_fault' first second (Err (NotLp name_at)) = ⊥
IsComparison declares first_fault declares' first_fault' first second (Err OutOfMemory) = Unit {0}

-- Whether a text is that of the model that it declares; or its first error.
abbrev pub IsTestOfText : Declares → HasFirstFault → TextOf → List ℕ → Result Bool ConvertFault → Type 0
IsTestOfText declares first_fault text bytes (Ok true) = (m : LinearModel) × declares bytes m × (bytes ≡ text m)
IsTestOfText declares first_fault text bytes (Ok false) = (m : LinearModel) × declares bytes m × (bytes ≢ text m)
IsTestOfText declares first_fault text bytes (Err (First fault)) = first_fault bytes fault
IsTestOfText declares first_fault text bytes (Err (Second fault)) = ⊥
IsTestOfText declares first_fault text bytes (Err (NotLp name_at)) = ⊥
IsTestOfText declares first_fault text bytes (Err OutOfMemory) = Unit {0}
