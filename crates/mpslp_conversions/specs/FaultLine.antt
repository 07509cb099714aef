-- The line that reports the error of a run, and the exit status of a program that ends with it.
use Rattle.std.specs.Prelude.{ℕ, List, [], ◌++◌, Option, None, Some, ◌==◌, if◌then◌else◌, codes, decimal}
use Rattle.mpslp_types.specs.FaultName.{kind_name}
use Rattle.mpslp_types.specs.declared.faults.Fault.{Fault}
use Rattle.mpslp_types.specs.declared.faults.NameAt.{NameAt}
use Rattle.mpslp_types.specs.declared.faults.NameAt.TheVariants.{Objective, Row, Column}
use Rattle.mpslp_conversions.specs.declared.faults.RunFault.{RunFault}
use Rattle.mpslp_conversions.specs.declared.faults.RunFault.TheVariants.{Read, TooLong, File, NotLp, Write, OutOfMemory}

-- the place of an error of a file; line 0 is the whole file
abbrev pub line_text : ℕ → List ℕ
line_text line = if line == 0 then codes "file" else codes "line " ++ decimal line

-- a space and the row or column that has the error
abbrev pub name_text : Option (List ℕ) → List ℕ
name_text None = []
name_text (Some name) = codes " " ++ name

abbrev pub place_text : NameAt → List ℕ
place_text Objective = codes "objective"
place_text (Row i) = codes "row " ++ decimal i
place_text (Column j) = codes "column " ++ decimal j

-- the text that reports an error of a file
abbrev pub file_text : Fault → List ℕ
file_text fault = line_text fault.line ++ codes ": " ++ kind_name fault.kind ++ name_text fault.name

-- the text that reports an error, without the line feed
abbrev pub fault_text : RunFault → List ℕ
fault_text Read = codes "read failed"
fault_text TooLong = codes "file: TooLong"
fault_text (File fault) = file_text fault
fault_text (NotLp name_at) = place_text name_at ++ codes ": NotLp"
fault_text (Write written) = codes "write failed"
fault_text OutOfMemory = codes "out of memory"

abbrev pub fault_line : RunFault → List ℕ
fault_line fault = fault_text fault ++ codes "\n"

abbrev pub status_of : RunFault → ℕ
status_of Read = 4
status_of TooLong = 2
status_of (File fault) = 2
status_of (NotLp name_at) = 2
status_of (Write written) = 4
status_of OutOfMemory = 5
