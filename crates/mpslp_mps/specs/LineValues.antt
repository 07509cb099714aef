-- What a line of COLUMNS, RHS or RANGES without an error gives: its name, and its rows with their values.
use Rattle.std.specs.Prelude.{ℕ, map, List, Option}
use Rattle.mpslp_decimal.specs.Decimal.{Number}
use Rattle.mpslp_types.specs.declared.faults.FaultKind.{FaultKind}
use Rattle.mpslp_lines.specs.FaultTests.{first_held, number_tests, value_of}
use Rattle.mpslp_mps_fields.specs.DataLine.{Pair, ValuesLine}
use Rattle.mpslp_mps.specs.LineFault.{literals_of}

-- the error of the numbers of pairs
abbrev pub numbers_fault : List Pair → Option FaultKind
numbers_fault pairs = first_held (number_tests (literals_of pairs))

-- the row of a pair, and its value
abbrev pub row_value : Pair → List ℕ × Number
row_value pair = (pair.row, value_of pair.literal)

-- the name of a line, its rows and their values
abbrev pub named_values : ValuesLine → List ℕ × List (List ℕ × Number)
named_values line = (line.name, map row_value line.pairs)
