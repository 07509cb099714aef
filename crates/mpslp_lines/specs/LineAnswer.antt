-- What the code returns for a line and for its declarations, and how the error of a line is reported.
use Rattle.std.specs.Prelude.{◌≡◌, ℕ, Option, Some, None, Result, Err, MatchResult}
use Rattle.mpslp_builder.specs.Declaration.{Declarations, Draft, with_declarations}
use Rattle.mpslp_types.specs.declared.faults.Fault.{Fault}
use Rattle.mpslp_types.specs.declared.faults.FaultKind.{FaultKind}
use Rattle.mpslp_types.specs.declared.faults.ReadFault.{ReadFault}
use Rattle.mpslp_types.specs.declared.faults.ReadFault.TheVariants as reads
use Rattle.mpslp_lines.specs.Declaring.{declared_fault}
use Rattle.mpslp_lines.specs.declared.errors.LineError.{LineError}
use Rattle.mpslp_lines.specs.declared.errors.LineError.TheVariants as lines

-- ---- the result for a line

-- the error is the first error, unless an allocation failed
abbrev pub IsErrorOf : Option FaultKind → LineError → Type 0
IsErrorOf first_fault (lines.Fault kind) = first_fault ≡ Some kind
IsErrorOf first_fault lines.OutOfMemory = Unit {0}

abbrev pub LineResult : Type 0
LineResult = Result (Unit {0}) LineError

-- what holds if the line has an error; nothing is stated if an allocation failed
abbrev pub IfFault : LineResult → Type 0 → Type 0
IfFault (Err (lines.Fault kind)) Claim = Claim
IfFault _ Claim = Unit {0}

-- Declarations without an error are made.
abbrev pub AreDeclared : Draft → Declarations → LineResult → Draft → Type 0
AreDeclared earlier declarations answer later =
    let first_fault = declared_fault earlier declarations in
    MatchResult answer (λ _. (first_fault ≡ None) × (later ≡ with_declarations earlier declarations)) (IsErrorOf first_fault)

-- ---- the result for a text

-- the error of a line is reported as an error on this line
abbrev pub IsFaultOn : ℕ → LineError → ReadFault → Type 0
IsFaultOn n (lines.Fault kind) answer = answer ≡ reads.File (record { kind = kind; line = n; name = None })
IsFaultOn n lines.OutOfMemory answer = answer ≡ reads.OutOfMemory

-- the error of a text is its first error, unless an allocation failed
abbrev pub IsFaultOf : Option Fault → ReadFault → Type 0
IsFaultOf first_fault (reads.File fault) = first_fault ≡ Some fault
IsFaultOf first_fault reads.Failed = ⊥
IsFaultOf first_fault reads.OutOfMemory = Unit {0}
