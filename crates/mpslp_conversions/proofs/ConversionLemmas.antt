-- The result of a conversion from the results of its parts.
use Rattle.std.{proofs.Common.{arith, ◌≡◌, ℕ, List, Bool, true, false, refl, sym, subst, Result, Ok, Err, Vec}, specs.Prelude.{IsOkUnless}}
use Rattle.std.{specs.{Bool.{Decides}, declared.alloc.Global.{Global}}, proofs.lemmas.Bool.Decides.{not_from_Decides}}
use Rattle.mpslp_model_core.specs.Model.{LinearModel}
use Rattle.mpslp_types.specs.declared.faults.Fault.{Fault}
use Rattle.mpslp_model.specs.FormatParts.{HasFirstFault, Declares, Unfit, TextOf}
use Rattle.mpslp_conversions.specs.Conversions.{IsText, IsConversion, IsTestOfModel, IsComparison, IsTestOfText}
use Rattle.mpslp_conversions.specs.declared.faults.ConvertFault.{ConvertFault, TheVariants.{First, Second}}
use Rattle.mpslp_conversions.specs.declared.faults.ConvertFault.TheVariants.{NotLp, OutOfMemory}

-- the text of the model that the bytes declare
pub conversion_of : (declares : Declares) (first_fault : HasFirstFault) (unfit : Unfit) (text : TextOf) (bytes : List ℕ)
    (m : LinearModel) (result : Result (Vec ℕ Global) ConvertFault) → declares bytes m → IsText unfit text m result
    → IsConversion declares first_fault unfit text bytes result
conversion_of declares first_fault unfit text bytes m (Ok out) declared h = (m, declared, h.0, h.1)
conversion_of declares first_fault unfit text bytes m (Err (First fault)) declared h = absurd h
conversion_of declares first_fault unfit text bytes m (Err (Second fault)) declared h = absurd h
conversion_of declares first_fault unfit text bytes m (Err (NotLp name_at)) declared h = (m, declared, h)
conversion_of declares first_fault unfit text bytes m (Err OutOfMemory) declared h = tt

-- a text that declares a model and another one are compared by their models
pub comparison_of : (declares : Declares) (first_fault : HasFirstFault) (declares' : Declares) (first_fault' : HasFirstFault)
    (first second : List ℕ) (m : LinearModel) (result : Result Bool ConvertFault) → declares first m
    → IsTestOfModel declares' first_fault' m second result →
    IsComparison declares first_fault declares' first_fault' first second result
comparison_of declares first_fault declares' first_fault' first second m (Ok true) one (n, other, outcome) =
    (m, one, subst (declares' second) (sym (outcome.0 refl)) other)
comparison_of declares first_fault declares' first_fault' first second m (Ok false) one (n, other, outcome) =
    (m, n, one, other, not_from_Decides false outcome refl)
comparison_of declares first_fault declares' first_fault' first second m (Err (First fault)) one h = absurd h
comparison_of declares first_fault declares' first_fault' first second m (Err (Second fault)) one h = (m, one, h)
comparison_of declares first_fault declares' first_fault' first second m (Err (NotLp name_at)) one h = absurd h
comparison_of declares first_fault declares' first_fault' first second m (Err OutOfMemory) one h = tt

-- a second text that declares a model has a result
pub second_is_accepted : (declares : Declares) (first_fault : HasFirstFault) (m n : LinearModel) (bytes : List ℕ)
    (result : Result Bool ConvertFault)
    → ((fault : Fault) → first_fault bytes fault → ⊥) → IsTestOfModel declares first_fault m bytes result →
    IsOkUnless result OutOfMemory
second_is_accepted = grind arith

-- a text that declares a model is compared with the text of the model
pub test_of : (declares : Declares) (first_fault : HasFirstFault) (text : TextOf) (bytes : List ℕ) (m : LinearModel) (same : Bool)
    → declares bytes m → Decides same (bytes ≡ text m) → IsTestOfText declares first_fault text bytes (Ok same)
test_of declares first_fault text bytes m true declared outcome = (m, declared, outcome.0 refl)
test_of declares first_fault text bytes m false declared outcome = (m, declared, not_from_Decides false outcome refl)
