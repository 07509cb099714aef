-- Tests of a line in the order of the kinds of errors: of its bytes, names and number literals; and how errors are reported.
use Rattle.std.specs.Prelude.{ℕ, ◌-◌, ◌^◌, min, nat_le, ◌==◌, Bool, true, ◌&&◌, ◌||◌, not, if◌then◌else◌, List, [], ◌∷◌, length, filter_map, Option, Some, None, Result, Ok, Err}
use Rattle.mpslp_types.specs.Basics.{list_all, list_any, option_map_or, result_unwrap_or, Number, zero_number, number_of, same_bytes, has_name_length, is_visible, marker, kind_rank}
use Rattle.mpslp_types.specs.declared.faults.{FaultKind.FaultKind, BuildFault.BuildFault, Fault.Fault}
use Rattle.mpslp_lines.specs.declared.legal_line.TheConstants.{MAX_LINE_LEN}
use Rattle.mpslp_decimal.specs.declared.literal.NumberFault.{NumberFault}
use Rattle.mpslp_decimal.specs.declared.literal.NumberFault.TheVariants as numbers
use Rattle.mpslp_types.specs.declared.faults.FaultKind.TheVariants as kinds
use Rattle.mpslp_types.specs.declared.faults.BuildFault.TheVariants as builds

-- kinds, each with the test whether a line has this error
abbrev pub FaultTests : Type 0
FaultTests = List (Bool × FaultKind)

-- the kind of the first failing test
abbrev pub first_held : FaultTests → Option FaultKind
first_held [] = None
first_held (test ∷ more) = if test.0 then Some test.1 else first_held more

-- the tests of a line of this shape; a line of another shape has a wrong number of fields and is not tested further
abbrev pub judged_by : {X : Type 0} → (X → FaultTests) → Option X → FaultTests
judged_by tests shape = option_map_or tests shape ((true, kinds.FieldCount) ∷ [])

-- ---- length and bytes

abbrev pub has_legal_length : List ℕ → Bool
has_legal_length line = nat_le (length line) MAX_LINE_LEN

-- a tab, or printable ASCII including the space; a comment may contain any bytes
abbrev pub is_legal_byte : ℕ → Bool
is_legal_byte byte = byte == 9 || (nat_le 32 byte && nat_le byte 126)

-- length and bytes are tested first; `outside` is the part of the line outside comments
abbrev pub legal_tests : (line outside : List ℕ) → FaultTests
legal_tests line outside = (not (has_legal_length line), kinds.LineTooLong) ∷ (not (list_all is_legal_byte outside), kinds.BadByte) ∷ []

-- ---- names

-- a name has 1 to 255 bytes, each visible ASCII, and is not `'MARKER'`
abbrev pub name_tests : List ℕ → FaultTests
name_tests name =
    (not (has_name_length name), kinds.NameLength)
    ∷ (not (list_all is_visible name), kinds.NameByte)
    ∷ (same_bytes name marker, kinds.NameMarker) ∷ []

-- ---- literals

-- the value of a literal; 0 for any other text, which is an error
abbrev pub value_of : List ℕ → Number
value_of literal = result_unwrap_or (number_of literal) zero_number

abbrev pub kind_of_number_fault : NumberFault → FaultKind
kind_of_number_fault numbers.BadNumber = kinds.BadNumber
kind_of_number_fault numbers.LongNumber = kinds.LongNumber
kind_of_number_fault numbers.TooManyDigits = kinds.TooManyDigits
kind_of_number_fault numbers.ExponentRange = kinds.ExponentRange

-- the error of a literal
abbrev pub number_fault : List ℕ → Option FaultKind
number_fault literal = fault (number_of literal)
  where
    fault : {X : Type 0} → Result X NumberFault → Option FaultKind
    fault (Ok _) = None
    fault (Err refusal) = Some (kind_of_number_fault refusal)

abbrev pub is_kind : FaultKind → FaultKind → Bool
is_kind kind other = kind_rank kind == kind_rank other

-- one of the literals has an error of this kind
abbrev pub has_number_fault : List (List ℕ) → FaultKind → Bool
has_number_fault literals kind = list_any (is_kind kind) (filter_map number_fault literals)

-- the literals of a line are tested together: the first kind that one of them has decides
abbrev pub number_tests : List (List ℕ) → FaultTests
number_tests literals =
    (has_number_fault literals kinds.BadNumber, kinds.BadNumber)
    ∷ (has_number_fault literals kinds.LongNumber, kinds.LongNumber)
    ∷ (has_number_fault literals kinds.TooManyDigits, kinds.TooManyDigits)
    ∷ (has_number_fault literals kinds.ExponentRange, kinds.ExponentRange) ∷ []

-- ---- the error that is reported

-- The kind of an error of the builder. No well-formed line declares a second sense or objective, and out of memory is not an
-- error of the line: the kinds given here for these three do not matter.
abbrev pub kind_of_build_fault : BuildFault → FaultKind
kind_of_build_fault builds.DuplicateSense = kinds.DuplicateEntry
kind_of_build_fault builds.SecondObjective = kinds.DuplicateEntry
kind_of_build_fault builds.UnknownRow = kinds.UnknownRow
kind_of_build_fault builds.UnknownColumn = kinds.UnknownColumn
kind_of_build_fault builds.DuplicateRow = kinds.DuplicateRow
kind_of_build_fault builds.DuplicateEntry = kinds.DuplicateEntry
kind_of_build_fault builds.DuplicateRhs = kinds.DuplicateRhs
kind_of_build_fault builds.DuplicateRange = kinds.DuplicateRange
kind_of_build_fault builds.DuplicateBound = kinds.DuplicateBound
kind_of_build_fault builds.RangeOnFree = kinds.RangeOnFree
kind_of_build_fault builds.SemiContinuous = kinds.SemiContinuous
kind_of_build_fault builds.InfiniteValue = kinds.InfiniteValue
kind_of_build_fault builds.OutOfMemory = kinds.DuplicateEntry

-- lines are counted from 1 to at most 2^64 - 1; the error of a line has no name
abbrev pub fault_on_line : ℕ → FaultKind → Fault
fault_on_line n kind = record { kind = kind; line = min n (2 ^ 64 - 1); name = None }
