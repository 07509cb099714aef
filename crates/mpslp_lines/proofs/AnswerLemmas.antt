-- Laws of a format and of the result of its reader: bytes that declare a model have no first error, and all others do.
use Rattle.std.{proofs.Common.{List, arith, ℕ, ◌≡◌}, specs.Prelude.{IsErrAnd, MatchResult, None, Option, Result, Some}}
use Rattle.mpslp_builder.specs.{Declaration.Draft, FileFault.file_fault, Finish.Finishes, Meaning.model_of}
use Rattle.mpslp_types.specs.declared.faults.{Fault.Fault, FaultKind.FaultKind, ReadFault.ReadFault}
use Rattle.mpslp_model_core.specs.Model.{LinearModel}
use Rattle.mpslp_model.specs.Formats.{IsAnswerTo}
use Rattle.mpslp_lines.specs.{LineAnswer.{IsErrorOf, LineResult}, declared.errors.LineError.LineError}

-- ---- laws

abbrev IsFirst : (List ℕ → Option Fault) → List ℕ → Fault → Type 0
IsFirst first_fault bytes fault = first_fault bytes ≡ Some fault

pub model-or_fault : (Declares : List ℕ → LinearModel → Type 0) (first_fault : List ℕ → Option Fault)
    → ((bytes : List ℕ) (m : LinearModel) → Declares bytes m → first_fault bytes ≡ None)
    → (bytes : List ℕ) (m : LinearModel) (fault : Fault) → Declares bytes m → IsFirst first_fault bytes fault → ⊥
model-or_fault = grind arith

pub no_fault-unless : (o : Option Fault) → ((fault : Fault) → o ≡ Some fault → ⊥) → o ≡ None
no_fault-unless = grind arith

-- ---- results

-- the end of a builder that has the draft of the bytes
pub finished-answers : (Declares : List ℕ → LinearModel → Type 0) (first_fault : List ℕ →
    Option Fault) (bytes : List ℕ) (draft : Draft) (answer : Result LinearModel ReadFault)
    → first_fault bytes ≡ file_fault draft → (first_fault bytes ≡ None → Declares bytes (model_of draft))
    → Finishes draft answer → IsAnswerTo Declares (IsFirst first_fault) bytes answer
finished-answers = grind arith

-- of a call that ends with this error: of a line, and of a text
pub ends-by : (answer : LineResult) (error : LineError) (IsRead : Type 0) (first_fault : Option FaultKind)
    → IsErrAnd answer (λ e. e ≡ error) → IsErrorOf first_fault error
    → MatchResult answer (λ _. IsRead) (IsErrorOf first_fault)
ends-by = grind arith
