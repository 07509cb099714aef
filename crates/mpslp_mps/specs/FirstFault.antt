-- The first error of MPS text.
use Rattle.std.specs.Prelude.{◌≡◌, ℕ, ◌+◌, List, [], ◌∷◌, Option, Some, None, if◌then◌else◌}
use Rattle.std.specs.Option.{option_map, option_or}
use Rattle.mpslp_builder.specs.Declaration.{draft_of}
use Rattle.mpslp_builder.specs.FileFault.{whole_fault, file_fault}
use Rattle.mpslp_types.specs.declared.faults.Fault.{Fault}
use Rattle.mpslp_types.specs.declared.faults.FaultKind.{FaultKind}
use Rattle.mpslp_types.specs.declared.faults.FaultKind.TheVariants.{MissingEnd}
use Rattle.mpslp_lines.specs.Declaring.{first_fault}
use Rattle.mpslp_lines.specs.FaultTests.{fault_on_line}
use Rattle.mpslp_mps.specs.MpsText.{LineInContext, has_end, tests_at, declared_at, lines_in_context, declarations_of}

-- the kind of a line's error, if it has one: the least
abbrev pub line_fault : LineInContext → Option FaultKind
line_fault placed = first_fault (tests_at placed) placed.earlier (declared_at placed)

-- the error of the first line that has one, if the first of these lines is line n
abbrev pub first_line_fault : ℕ → List LineInContext → Option Fault
first_line_fault n [] = None
first_line_fault n (placed ∷ more) = option_or (option_map (fault_on_line n) (line_fault placed)) (first_line_fault (n + 1) more)

-- if no line has an error: a missing ENDATA, or an error of the whole file
abbrev pub whole_mps_fault : List ℕ → Option Fault
whole_mps_fault bytes = if has_end bytes then file_fault (draft_of (declarations_of bytes)) else Some (whole_fault MissingEnd None)

abbrev pub first_mps_fault : List ℕ → Option Fault
first_mps_fault bytes = option_or (first_line_fault 1 (lines_in_context bytes)) (whole_mps_fault bytes)

-- This is the first error of the bytes.
abbrev pub IsFirstMpsFault : List ℕ → Fault → Type 0
IsFirstMpsFault bytes fault = first_mps_fault bytes ≡ Some fault
