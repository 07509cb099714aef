-- The text of a model was written, if a sink took it.
use Rattle.std.proofs.Common.{◌≡◌, ℕ, Bool, List, arith}
use Rattle.std.specs.Prelude.{Option, None, Result}
use Rattle.mpslp_model_core.specs.Model.{LinearModel}
use Rattle.mpslp_types.specs.declared.faults.{NameAt.{NameAt}, WriteFault.{WriteFault}}
use Rattle.mpslp_io.specs.Devices.{IsTaken}
use Rattle.mpslp_model.specs.Formats.{IsWritten}

pub taken-written : {S : Type 0} (holds : S → List ℕ → Type 0) (failed : S → Bool) (unfit : LinearModel → Option NameAt)
    (text : LinearModel → List ℕ) (m : LinearModel) (first now : S)
    (r : Result (Unit {0}) WriteFault) → unfit m ≡ None → IsTaken holds failed first now (text m) r
    → IsWritten unfit text holds failed m first now r
taken-written = grind arith
