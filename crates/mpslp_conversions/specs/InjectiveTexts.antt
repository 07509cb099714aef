-- Different models have different texts.
use Rattle.std.specs.Prelude.{◌≡◌, ◌↔◌, None}
use Rattle.mpslp_model_core.specs.Model.{LinearModel, IsSound}
use Rattle.mpslp_model.specs.FormatParts.{Unfit, TextOf}

-- Two well-formed models whose names are legal in a format have the same text if and only if they are the same.
abbrev pub TextsAreInjective : Unfit → TextOf → Type 0
TextsAreInjective unfit text = (m n : LinearModel) → IsSound m → IsSound n → unfit m ≡ None → unfit n ≡ None → (text m ≡ text n) ↔ (m ≡ n)
