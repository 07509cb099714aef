-- The first errors of changed files, by computation.
use Rattle.mpslp_mps.proofs.Prelude
use Prelude.{◌≡◌, refl, ◌-◌, Option, Some, None, drop, codes, whole_fault, Fault, FaultKind, BadMarker, BadNumber, BadType}
use Prelude.{BoundsCrossed, ColumnSplit, DuplicateBound, DuplicateEntry, DuplicateRhs, DuplicateRow, FieldCount, Indicator, InfiniteLimit}
use Prelude.{InfiniteValue, LimitTooLarge, MissingEnd, NegativeUpper, NoColumns, Quadratic, RangeOnFree, SecondSet, SectionOrder}
use Prelude.{SectionRepeated, SemiBounds, SemiContinuous, Sos, UnknownColumn, UnknownRow, UnknownSection, fault_on_line, first_mps_fault}
use Rattle.std.specs.Prelude.{ℕ, List, ◌∷◌, [], ◌++◌, map, take}
use Rattle.mpslp_decimal.specs.Decimal.{trailing_zeros}
use Rattle.mpslp_mps.proofs.WorkedFiles.{lines_of, text}
use Prim.Native.String.{String}

abbrev on_line : ℕ → FaultKind → Option Fault
on_line n kind = Some (fault_on_line n kind)

abbrev of_whole : FaultKind → Option Fault
of_whole kind = Some (whole_fault kind None)

abbrev of_name : FaultKind → String → Option Fault
of_name kind name = Some (whole_fault kind (Some (codes name)))

-- ---- a file of 13 lines, and changes of it

abbrev base : List (List ℕ)
base = lines_of "NAME\nROWS\n N  C\n L  R\nCOLUMNS\n    X  C  1\n    X  R  1\n    Y  C  1\nRHS\n    A  R  1\nBOUNDS"
    ++ lines_of " UP  B  X  4\nENDATA"

-- the line with this number, counted from 1, is replaced
abbrev with_line : ℕ → String → List ℕ
with_line n line = text (take (n - 1) base ++ codes line ∷ drop n base)

-- one more line after the one with this number
abbrev with_line_after : ℕ → String → List ℕ
with_line_after n line = text (take n base ++ codes line ∷ drop n base)

abbrev changed_files : List (List ℕ × Option Fault)
changed_files =
    (text base, None) ∷
    (with_line 13 "QUADOBJ", on_line 13 Quadratic) ∷
    (with_line 13 "SOS", on_line 13 Sos) ∷
    (with_line 13 "INDICATORS", on_line 13 Indicator) ∷
    (with_line 13 "LAZYCONS", on_line 13 UnknownSection) ∷
    (with_line 13 "ROWS", on_line 13 SectionRepeated) ∷
    (with_line 13 "OBJSENSE MAX", on_line 13 SectionOrder) ∷
    (with_line 4 " X  R", on_line 4 BadType) ∷
    (with_line 7 "    X  Q  1", on_line 7 UnknownRow) ∷
    (with_line 7 "    X  C  2", on_line 7 DuplicateEntry) ∷
    (with_line 7 "    X  R  1x", on_line 7 BadNumber) ∷
    (with_line 7 "    X  R  1  C", on_line 7 FieldCount) ∷
    (with_line 8 "    M  'MARKER'  'SOSORG'", on_line 8 Sos) ∷
    (with_line 8 "    M  'MARKER'  'INTEND'", on_line 8 BadMarker) ∷
    (with_line_after 8 "    X  R  1", on_line 9 ColumnSplit) ∷
    (with_line_after 10 "    A2  R  1", on_line 11 SecondSet) ∷
    (with_line_after 10 "    A  R  1", on_line 11 DuplicateRhs) ∷
    (with_line 12 " SC  B  X  4", None) ∷
    (with_line 12 " SC  B", on_line 12 FieldCount) ∷
    (with_line 12 " SC  B  X  4x", on_line 12 BadNumber) ∷
    (with_line_after 12 " SC  B  X  4", on_line 13 DuplicateBound) ∷
    (text (take 11 base ++ lines_of " SC  B  X  4\n BV  B  X\nENDATA"), on_line 13 SemiContinuous) ∷
    -- a clash of types is reported before an error of the line's number
    (text (take 11 base ++ lines_of " LI  B  X  1\n SC  B  X  4x\nENDATA"), on_line 13 SemiContinuous) ∷
    (text (take 7 base ++ lines_of " M  'MARKER'  'INTORG'\n Y  C  1\nBOUNDS\n SC  B  Y  4\nENDATA"), on_line 11 SemiContinuous) ∷
    (with_line 12 " UP  B  Z  4", on_line 12 UnknownColumn) ∷
    (with_line 12 " UP  B  X  -1e30", on_line 12 InfiniteValue) ∷
    (with_line_after 12 " UP  B  X  4", on_line 13 DuplicateBound) ∷
    (text (take 10 base ++ lines_of "RANGES\n    G  C  1\nENDATA"), on_line 12 RangeOnFree) ∷
    (text (take 5 base ++ lines_of "RHS\n    A  R  1\nENDATA"), of_whole NoColumns) ∷
    (text (lines_of "NAME\nROWS\n L  obj" ++ drop 4 base), on_line 4 DuplicateRow) ∷
    (text (take 12 base), of_whole MissingEnd) ∷
    ([], of_whole MissingEnd) ∷
    []

-- ---- bounds of the one column of a file

abbrev with_bounds : String → List ℕ
with_bounds bounds = text (lines_of "ROWS\n N C\nCOLUMNS\n X C 1\nBOUNDS" ++ (lines_of bounds ++ lines_of "ENDATA"))

abbrev bounded_files : List (List ℕ × Option Fault)
bounded_files = (with_bounds " UP B X -1", of_name NegativeUpper "X") ∷ (with_bounds " UP B X -1\n LO B X 0", of_name BoundsCrossed "X")
    ∷ (with_bounds " FX B X 1e20", on_line 6 InfiniteValue) ∷ (with_bounds " UP B X -1\n MI B X", None) ∷ []

-- ---- semi-continuous columns

abbrev semi_continuous_files : List (List ℕ × Option Fault)
semi_continuous_files = (with_bounds " SC B X 0", of_name SemiBounds "X") ∷ (with_bounds " SC B X 1e20", of_name SemiBounds "X")
    ∷ (with_bounds " SC B X -1", of_name NegativeUpper "X") ∷ (with_bounds " SC B X 4\n LO B X -1", of_name SemiBounds "X")
    ∷ (with_bounds " SC B X 4\n MI B X", of_name SemiBounds "X") ∷ (with_bounds " SC B X 4\n LO B X 5", of_name BoundsCrossed "X")
    ∷ (with_bounds " SC B X 4\n UP B X 4", on_line 7 DuplicateBound) ∷ []

-- ---- infinite right-hand sides and large ranges

abbrev with_sides : String → List ℕ
with_sides sides = text (lines_of "NAME          SMALL\nROWS\n N  COST\n L  LIM1\n G  MYG\nCOLUMNS\n    X  COST  1.0  LIM1  1"
    ++ lines_of "    Y  COST  2  MYG  1.50\nRHS" ++ (lines_of sides ++ lines_of "ENDATA"))

abbrev files_with_sides : List (List ℕ × Option Fault)
files_with_sides = (with_sides "    RHS  LIM1  -1e20  MYG  1", of_name InfiniteLimit "LIM1")
    ∷ (with_sides "    RHS  LIM1  1e20  MYG  1", None)
    ∷ (with_sides "    RHS  LIM1  4  MYG  9e19\nRANGES\n    R  MYG  9e19", of_name LimitTooLarge "MYG") ∷ []

-- ---- an objective named by OBJNAME

abbrev objective_lines : String → List ℕ
objective_lines names =
    text (codes "NAME" ∷ (lines_of names
    ++ lines_of "ROWS\n N  C\n L  R\n N  S\nCOLUMNS\n    X  C  1  R  1\n    X  S  2\nENDATA"))

abbrev files_with_objectives : List (List ℕ × Option Fault)
files_with_objectives = (objective_lines "OBJNAME R", on_line 7 UnknownRow) ∷ (objective_lines "OBJNAME\n    Q", on_line 8 UnknownRow)
    ∷ (objective_lines "OBJNAME", on_line 3 SectionOrder) ∷ (objective_lines "OBJNAME\nOBJSENSE MAX", on_line 3 SectionOrder)
    ∷ (objective_lines "OBJNAME\nOBJNAME S", on_line 3 SectionOrder) ∷ (objective_lines "OBJSENSE\nOBJNAME S", on_line 3 SectionOrder)
    ∷ (objective_lines "OBJNAME S\n    C", on_line 3 SectionOrder) ∷ (objective_lines "OBJNAME S\nOBJNAME C", on_line 3 SectionRepeated)
    ∷ (codes "ROWS\n N  C\nOBJNAME C\nCOLUMNS\n    X  C  1\nENDATA\n", on_line 3 SectionOrder)
    ∷ (codes "OBJNAME C\nROWS\n N  C\nOBJNAME C\n", on_line 4 SectionRepeated) ∷ (codes "OBJNAME C\nNAME\n", on_line 2 SectionOrder)
    ∷ (objective_lines "OBJNAME S C", on_line 2 FieldCount) ∷ (objective_lines "OBJNAME\n    S C", on_line 3 FieldCount)
    ∷ (codes "OBJNAME obj\nROWS\n L  R\nCOLUMNS\n    X  R  1\nENDATA\n", on_line 4 UnknownRow)
    ∷ (codes "OBJNAME S\nROWS\n L  obj\nCOLUMNS\n    X  obj  1\nENDATA\n", on_line 4 UnknownRow)
    ∷ (codes "OBJNAME S\nROWS\nCOLUMNS X\n", on_line 3 FieldCount)
    ∷ (codes "OBJNAME S\nROWS\n N  S\n N  S\n", on_line 4 DuplicateRow) ∷ []

-- ---- all of them

abbrev worked_faults : List (List ℕ × Option Fault)
worked_faults = changed_files ++ bounded_files ++ semi_continuous_files ++ files_with_sides ++ files_with_objectives

pub worked_faults-right : map (λ row. first_mps_fault row.0) worked_faults ≡ map (λ row. row.1) worked_faults
unfolding trailing_zeros
worked_faults-right = refl
