-- What a format gives.
use Rattle.std.specs.Prelude.{ℕ, List, Option}
use Rattle.mpslp_model_core.specs.Model.{LinearModel}
use Rattle.mpslp_types.specs.declared.faults.{Fault.{Fault}, NameAt.{NameAt}}

-- Which model bytes declare in a format, which first error they have, the first name of a model that is not legal in a format,
-- and the text of a model.
abbrev pub Declares : Type 1
Declares = List ℕ → LinearModel → Type 0

abbrev pub HasFirstFault : Type 1
HasFirstFault = List ℕ → Fault → Type 0

abbrev pub Unfit : Type 0
Unfit = LinearModel → Option NameAt

abbrev pub TextOf : Type 0
TextOf = LinearModel → List ℕ
