-- The canonical texts of worked files, by computation.
use Rattle.std.specs.{Fmt.digits, Prelude.{List, [], drop, map, take, ℕ, ◌++◌, ◌∷◌}}
use Rattle.mpslp_decimal.specs.Decimal.{trailing_zeros}
use Rattle.mpslp_mps.proofs.WorkedFiles.{text}
use Prim.Native.String.{String}
use Rattle.mpslp_mps_laws.proofs.{DraftText.{IsPrinted, each-printed}, Prelude.{Each, codes, lines, refl}}
use Rattle.mpslp_mps.proofs.WorkedFiles as files

-- the lines of a text
abbrev lines_of : String → List (List ℕ)
lines_of s = lines (codes s)

abbrev ranges_lines : List (List ℕ)
ranges_lines = lines_of "NAME\nROWS\n N  C\n G  E1\n G  E2\n E  E3\n G  G1\n G  L1\nCOLUMNS\n    X  E1  1\n    X  E2  1"
    ++ lines_of "    X  E3  1\n    X  G1  1\n    X  L1  1\nRHS\n    RHS  E1  10\n    RHS  E2  7\n    RHS  E3  10" ++ lines_of
    "    RHS  G1  10\n    RHS  L1  8\nRANGES\n    RNG  E1  3\n    RNG  E2  3\n    RNG  G1  2\n    RNG  L1  2" ++ lines_of "ENDATA"

abbrev unit_integer_lines : List (List ℕ)
unit_integer_lines = lines_of "NAME\nROWS\n N  C\nCOLUMNS\n    MARKER  'MARKER'  'INTORG'\n    X  C  1\n    MARKER  'MARKER'  'INTEND'"
    ++ lines_of "BOUNDS\n UP  BND  X  1\nENDATA"

abbrev one_column : List (List ℕ)
one_column = lines_of "NAME\nROWS\n N  C\nCOLUMNS\n    X  C  1"

abbrev usual_layout_lines : List (List ℕ)
usual_layout_lines = lines_of "NAME\nROWS\n N  COST\n E  BAL\n G  DEM\nCOLUMNS\n    B  COST  1\n    B  BAL  -1"
    ++ lines_of "    MARKER  'MARKER'  'INTORG'\n    A  COST  3\n    A  BAL  1\n    A  DEM  1"
    ++ lines_of "    MARKER  'MARKER'  'INTEND'\nRHS\n    RHS  DEM  2.5\nBOUNDS\n UP  BND  A  10\n UP  BND  B  4\nENDATA"

-- ---- an objective named by OBJNAME

abbrev named_objective_lines : List (List ℕ)
named_objective_lines = lines_of "NAME\nROWS\n N  S\n N  C\n L  R\nCOLUMNS\n    X  S  2\n    X  C  1\n    X  R  1\nENDATA"

-- ---- semi-continuous columns

abbrev semi_file : String → List ℕ
semi_file bounds = text (lines_of "NAME\nROWS\n N  C\nCOLUMNS\n    MARKER  'MARKER'  'INTORG'\n    X  C  1\n    MARKER  'MARKER'  'INTEND'"
    ++ lines_of "    Y  C  1\nBOUNDS" ++ lines_of bounds ++ lines_of "ENDATA")

abbrev semi_text : String → List ℕ
semi_text bounds = text (lines_of "NAME\nROWS\n N  C\nCOLUMNS\n    Y  C  1\n    MARKER  'MARKER'  'INTORG'\n    X  C  1"
    ++ lines_of "    MARKER  'MARKER'  'INTEND'\nBOUNDS\n UP  BND  X  1" ++ lines_of bounds ++ lines_of "ENDATA")

-- only an upper bound: the column is before the integer ones
abbrev upper_only : List ℕ
upper_only = semi_file " SC  B  Y  4"

-- both bounds are equal, but printed separately, the lower one first
abbrev equal_bounds : List ℕ
equal_bounds = semi_file " SC  B  Y  4\n LO  B  Y  4"

-- ---- files and their canonical texts

abbrev printed : List (List ℕ × List ℕ)
printed =
    map (λ file. (file, files.small_again))
    (files.small ∷ files.small_with_returns ∷ files.small_without_last_feed ∷ files.small_with_text_after_end ∷
    files.small_again ∷ []) ++ map (λ file. (file, files.maximized))
    (files.maximized ∷ files.maximized_on_header ∷ files.maximized_by_long_word ∷ files.maximized_with_tabs ∷ [])
    -- these are their own canonical texts
    ++ map (λ file. (file, file)) (files.empty_column ∷ files.integer_bounds ∷ files.not_maximized ∷ files.semi_columns ∷ [])
    ++ (files.small_maximized, text (take 1 files.small_again_lines ++ lines_of "OBJSENSE\n    MAX" ++ drop 1 files.small_again_lines)) ∷
    (files.ranges, text ranges_lines) ∷
    (files.fixed_columns, text unit_integer_lines) ∷
    (files.binary_bound, text unit_integer_lines) ∷
    (files.integer_without_upper, text (take 8 unit_integer_lines ++ lines_of " PL  BND  X\nENDATA")) ∷
    (files.constant, text (one_column ++ lines_of "RHS\n    RHS  C  5\nENDATA")) ∷
    (files.negative_upper, text (one_column ++ lines_of "BOUNDS\n MI  BND  X\n UP  BND  X  -1\nENDATA")) ∷
    (files.zero_upper, text (one_column ++ lines_of "BOUNDS\n FX  BND  X  0\nENDATA")) ∷
    (files.infinite_bounds, text (one_column ++ lines_of "BOUNDS\n FR  BND  X\nENDATA")) ∷
    (files.usual_layout, text usual_layout_lines) ∷
    (files.header_objname, text named_objective_lines) ∷
    (upper_only, semi_text " SC  BND  Y  4") ∷
    (equal_bounds, semi_text " LO  BND  Y  4\n SC  BND  Y  4") ∷
    []

pub printed-right : Each (λ row. IsPrinted row.0 row.1) printed
unfolding digits trailing_zeros
printed-right = each-printed printed refl
