-- The result of reading LP text.
use Rattle.std.specs.Prelude.{ℕ, List, Result}
use Rattle.mpslp_model_core.specs.Model.{LinearModel}
use Rattle.mpslp_model.specs.Formats.{IsAnswerTo}
use Rattle.mpslp_types.specs.declared.faults.ReadFault.{ReadFault}
use Rattle.mpslp_lp.specs.LpText.{DeclaresLp}
use Rattle.mpslp_lp.specs.FirstFault.{IsFirstLpFault}

-- The model that the bytes declare, or their first error; or an allocation failed.
abbrev pub ReadsLp : List ℕ → Result LinearModel ReadFault → Type 0
ReadsLp bytes answer = IsAnswerTo DeclaresLp IsFirstLpFault bytes answer
