-- Laws of MPS text.
use Rattle.std.specs.Prelude.{◌≡◌, ℕ, List}
use Rattle.mpslp_model_core.specs.Model.{LinearModel}
use Rattle.mpslp_types.specs.declared.faults.Fault.{Fault}
use Rattle.mpslp_mps.specs.MpsText.{DeclaresMps}
use Rattle.mpslp_mps.specs.FirstFault.{IsFirstMpsFault}

-- Two models that the same bytes declare are equal.
abbrev pub DeclareOneModel : Type 0
DeclareOneModel = (bytes : List ℕ) (m n : LinearModel) → DeclaresMps bytes m → DeclaresMps bytes n → m ≡ n

-- Two first errors of the same bytes are equal.
abbrev pub HaveOneFirstFault : Type 0
HaveOneFirstFault = (bytes : List ℕ) (a b : Fault) → IsFirstMpsFault bytes a → IsFirstMpsFault bytes b → a ≡ b

-- No bytes both declare a model and have a first error.
abbrev pub DeclareOrFail : Type 0
DeclareOrFail = (bytes : List ℕ) (m : LinearModel) (fault : Fault) → DeclaresMps bytes m → IsFirstMpsFault bytes fault → ⊥

-- Bytes without a first error declare a model.
abbrev pub DeclareUnlessFaulty : Type 0
DeclareUnlessFaulty = (bytes : List ℕ) → ((fault : Fault) → IsFirstMpsFault bytes fault → ⊥) → (m : LinearModel) × DeclaresMps bytes m
