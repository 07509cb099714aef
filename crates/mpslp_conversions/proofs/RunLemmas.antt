-- The result of a run from the results of its parts.
use Rattle.std.proofs.Common.{◌≡◌, ℕ, List, Bool, true, false, Option, Some, None, Result, Ok, Err}
use Rattle.mpslp_types.specs.declared.faults.NameAt.{NameAt}
use Rattle.mpslp_model_core.specs.Model.{LinearModel}
use Rattle.mpslp_model.specs.FormatParts.{HasFirstFault, Declares, Unfit, TextOf}
use Rattle.mpslp_conversions.specs.Runs.{SourceGave, IsPut, IsRun}
use Rattle.mpslp_conversions.specs.declared.faults.RunFault.{RunFault, TheVariants.{Read, TooLong, File, NotLp, Write, OutOfMemory}}

-- the bytes of a source declare a model, and its text was written
pub run_of : {S : Type 0} (declares : Declares) (first_fault : HasFirstFault) (unfit : Unfit) (text : TextOf)
    (holds : S → List ℕ → Type 0) (failed : S → Bool) (count : S →
    ℕ) (left left_now : Option (List ℕ)) (source_failed : Bool) (limit : ℕ) (bytes : List ℕ) (m : LinearModel)
    (old new : S) (result : Result (Unit {0}) RunFault) → SourceGave left left_now source_failed limit bytes
    → declares bytes m → IsPut unfit text holds failed count m old new result
    → IsRun declares first_fault unfit text holds failed count left left_now source_failed limit old new result
run_of declares first_fault unfit text holds failed count left left_now source_failed limit bytes m old new (Ok _) gave
    declared put =
    (bytes, m, gave, declared, put.0, put.1)
run_of declares first_fault unfit text holds failed count left left_now source_failed limit bytes m old new (Err Read)
    gave declared put =
    absurd put
run_of declares first_fault unfit text holds failed count left left_now source_failed limit bytes m old new
    (Err TooLong) gave declared put =
    absurd put
run_of declares first_fault unfit text holds failed count left left_now source_failed limit bytes m old new
    (Err (File fault)) gave declared put =
    absurd put
run_of declares first_fault unfit text holds failed count left left_now source_failed limit bytes m old new
    (Err (NotLp name_at)) gave declared put =
    (bytes, m, gave, declared, put.0, put.1)
run_of declares first_fault unfit text holds failed count left left_now source_failed limit bytes m old new
    (Err (Write written)) gave declared put =
    (bytes, m, gave, declared, put.0, put.1)
run_of declares first_fault unfit text holds failed count left left_now source_failed limit bytes m old new
    (Err OutOfMemory) gave declared put =
    absurd put

apart : {X : Type 0} (x : X) → ◌≡◌ {A = Option X} None (Some x) → ⊥
apart x e = cc

same_place : (name_at other : NameAt) → ◌≡◌ {A = Option NameAt} (Some name_at) (Some other) → name_at ≡ other
same_place name_at other e = cc

not_both : {b : Bool} → b ≡ true → b ≡ false → ⊥
not_both p q = absurd cc
