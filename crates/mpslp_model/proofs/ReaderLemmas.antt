-- The result of a reader that is given a whole text as one piece.
use Rattle.std.proofs.Common.{arith, ◌≡◌, sym, subst, ◌++◌, ℕ, List, [], Bool, false, append-nil}
use Rattle.std.specs.Prelude.{Result, Ok, Err, IsErrAnd}
use Rattle.mpslp_model_core.specs.Model.{LinearModel}
use Rattle.mpslp_model.specs.{Formats.{IsAnswerTo}, Readers.{IsFedBy}}
use Rattle.mpslp_types.specs.declared.faults.{Fault.{Fault}, ReadFault.{ReadFault, TheVariants.{File, Failed, OutOfMemory}}}

-- an error of the one piece is one of the text
refused_piece : {R : Type 0} (after : R → List ℕ → Type 0) (early_fault : List ℕ → Fault → Type 0) (refused : R → Bool)
    (declares : List ℕ → LinearModel → Type 0) (first_fault : List ℕ → Fault →
    Type 0) (old new : R) (bytes : List ℕ) (error : ReadFault) →
    ((more : List ℕ) (fault : Fault) → early_fault bytes fault → first_fault (bytes ++ more) fault) →
    after old [] → refused old ≡ false → IsFedBy after early_fault refused old bytes new (Err error) →
    IsAnswerTo declares first_fault bytes (Err error)
refused_piece after early_fault refused declares first_fault old new bytes (File fault) is_first start works h =
    subst (λ (all : List ℕ). first_fault all fault) (append-nil bytes) (is_first [] fault (h [] start))
refused_piece after early_fault refused declares first_fault old new bytes Failed is_first start works h = grind arith
refused_piece after early_fault refused declares first_fault old new bytes OutOfMemory is_first start works h = tt

-- the same for a call that ends with this error
pub ends_refused : {R : Type 0} (after : R → List ℕ → Type 0) (early_fault : List ℕ → Fault → Type 0) (refused : R → Bool)
    (declares : List ℕ → LinearModel → Type 0) (first_fault : List ℕ → Fault →
    Type 0) (old new : R) (bytes : List ℕ) (error : ReadFault) (answer : Result LinearModel ReadFault)
    → ((more : List ℕ) (fault : Fault) → early_fault bytes fault → first_fault (bytes ++ more) fault) → after old [] →
    refused old ≡ false → IsErrAnd answer (λ e. e ≡ error) → IsFedBy after early_fault refused old bytes new (Err error)
    → IsAnswerTo declares first_fault bytes answer
ends_refused after early_fault refused declares first_fault old new bytes error (Ok m) is_first start works is h = absurd is
ends_refused after early_fault refused declares first_fault old new bytes error (Err e) is_first start works is h =
    subst (λ (found : ReadFault). IsAnswerTo declares first_fault bytes (Err found)) (sym is)
    (refused_piece after early_fault refused declares first_fault old new bytes error is_first start works h)
