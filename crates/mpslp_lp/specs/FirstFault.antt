-- The first error of LP text.
use Rattle.std.specs.Prelude.{◌≡◌, ℕ, List, Option, Some, None}
use Rattle.mpslp_builder.specs.Declaration.{Draft}
use Rattle.mpslp_builder.specs.FileFault.{whole_fault, file_fault}
use Rattle.mpslp_types.specs.declared.faults.Fault.{Fault}
use Rattle.mpslp_types.specs.declared.faults.FaultKind.TheVariants.{MissingEnd}
use Rattle.mpslp_lp_grammar.specs.Rules.{Outcome}
use Rattle.mpslp_lp_grammar.specs.Rules.Outcome.{Finished, Refused, Open}
use Rattle.mpslp_lp.specs.LpText.{outcome}

-- the error that is reported for an outcome; for complete text, the error of the whole file
abbrev pub fault_of : Outcome Fault Draft → Option Fault
fault_of (Finished all) = file_fault all
fault_of (Refused fault) = Some fault
fault_of Open = Some (whole_fault MissingEnd None)

abbrev pub first_lp_fault : List ℕ → Option Fault
first_lp_fault bytes = fault_of (outcome bytes)

-- This is the first error of the bytes.
abbrev pub IsFirstLpFault : List ℕ → Fault → Type 0
IsFirstLpFault bytes fault = first_lp_fault bytes ≡ Some fault
