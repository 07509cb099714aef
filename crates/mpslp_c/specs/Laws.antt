-- Laws of the arrays of models.
use Rattle.std.specs.Prelude.{◌≡◌, ℕ, List, Vec, Ok}
use Rattle.std.specs.declared.alloc.Global.{Global}
use Rattle.mpslp_model_core.specs.Model.{LinearModel, IsSound}
use Rattle.mpslp_types.specs.declared.forms.Form.{Form}
use Rattle.mpslp_write.specs.ByForm.{declares_in, first_fault_in, unfit_in, text_in}
use Rattle.mpslp_c.specs.Arrays.{RepresentsModel}
use Rattle.mpslp_c.specs.Stored.{Defines}
use Rattle.mpslp_c.specs.Answers.{IsLoading, IsStoring}
use Rattle.mpslp_c.specs.declared.arrays.MpslpModel.{MpslpModel}

-- The arrays of a well-formed model define that model.
abbrev pub DefineTheirModels : Type 0
DefineTheirModels = (m : LinearModel) (arrays : MpslpModel) → IsSound m → RepresentsModel m arrays → Defines arrays m

-- What is loaded from bytes and stored in a format is the canonical text of the model that the bytes declare.
abbrev pub AreStoredAsTheirTexts : Type 0
AreStoredAsTheirTexts =
    (from to : Form) (bytes : List ℕ) (m : LinearModel) (arrays : MpslpModel) (text : Vec ℕ Global) → declares_in from bytes m → IsLoading (declares_in from) (first_fault_in from) bytes (Ok arrays)
    → IsStoring (unfit_in to) (text_in to) arrays (Ok text) → text.items ≡ text_in to m
