-- Laws of declarations and their meaning.
use Rattle.std.specs.Prelude.{◌≡◌, ◌↔◌, IsTrue, None, is_some, Result, IfOk, MatchResult}
use Rattle.std.specs.List.Sorted.{IsPermutation}
use Rattle.mpslp_model_core.specs.Model.{LinearModel}
use Rattle.mpslp_builder.specs.Declaration.{Declarations, Draft}
use Rattle.mpslp_types.specs.declared.faults.ReadFault.{ReadFault}
use Rattle.mpslp_types.specs.declared.faults.ReadFault.TheVariants.{OutOfMemory}
use Rattle.mpslp_builder.specs.Consistency.{AreConsistent}
use Rattle.mpslp_builder.specs.Finish.{Finishes}
use Rattle.mpslp_builder.specs.Made.{IsMade}
use Rattle.mpslp_builder.specs.FileFault.{file_fault}
use Rattle.mpslp_builder.specs.Meaning.{DraftMeans, Means}

-- The same declarations mean at most one model.
abbrev pub MeanOneModel : Type 0
MeanOneModel = (declarations : Declarations) (m n : LinearModel) → Means declarations m → Means declarations n → m ≡ n

-- The same declarations in another order mean the same model.
abbrev pub MeanTheSameInAnyOrder : Type 0
MeanTheSameInAnyOrder = (declarations others : Declarations) (m : LinearModel) → IsPermutation declarations others → Means declarations m → Means others m

-- The declarations of a builder, the objective's name included, have no whole-file error if and only if they mean a model.
-- So `finish` rejects no model and invents none.
abbrev pub FaultsAreExact : Type 0
FaultsAreExact = (all : Draft) → IsMade all → IsTrue (is_some all.objective) → (file_fault all ≡ None) ↔ ((m : LinearModel) × DraftMeans all m)

-- The declarations of a builder, the objective's name included, are consistent.
abbrev pub MadeDeclarationsAreConsistent : Type 0
MadeDeclarationsAreConsistent = (all : Draft) (made : IsMade all) → IsTrue (is_some all.objective) → AreConsistent made.declarations

-- A result is a model only if the declarations mean it. If they mean a model, the result is this model or out of memory.
pub record IsAnswerOf (declarations : Declarations) (answer : Result LinearModel ReadFault) : Type 0 where
  pub meant : IfOk answer (λ model. Means declarations model)
  pub answered : (m : LinearModel) → Means declarations m → MatchResult answer (λ model. model ≡ m) (λ fault. fault ≡ OutOfMemory)

-- `finish` has such a result.
abbrev pub FinishAnswersTheMeaning : Type 0
FinishAnswersTheMeaning = (all : Draft) (made : IsMade all) (answer : Result LinearModel ReadFault) → IsTrue (is_some all.objective) → Finishes all answer → IsAnswerOf made.declarations answer
