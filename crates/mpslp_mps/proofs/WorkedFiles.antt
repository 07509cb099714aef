-- Worked files: each declares a model, by computation.
use Rattle.mpslp_mps.proofs.Prelude
use Prelude.{◌≡◌, refl, ap, Option, Some, None, drop, ◌==◌, if◌then◌else◌, codes, list_all, flat_map, Draft, empty_draft, draft_of}
use Prelude.{has_objective, refusals_in_turn, is_legal, model_of, file_fault, means-from_none, Fault, BuildFault, is_mps_text}
use Prelude.{declarations_of, DeclaresMps, lines}
use Rattle.std.specs.Prelude.{ℕ, Bool, List, ◌∷◌, [], ◌++◌, map, take, true}
use Rattle.mpslp_decimal.specs.Decimal.{trailing_zeros}
use Prim.Native.String.{String}

-- the lines of a text
abbrev pub lines_of : String → List (List ℕ)
lines_of s = lines (codes s)

-- lines, each followed by a line feed
abbrev pub text : List (List ℕ) → List ℕ
text lines = flat_map (λ line. line ++ 10 ∷ []) lines

-- lines, each followed by a carriage return and a line feed
abbrev pub text_with_returns : List (List ℕ) → List ℕ
text_with_returns lines = flat_map (λ line. line ++ 13 ∷ 10 ∷ []) lines

-- what the lines of a file declare together
abbrev pub draft_in : List ℕ → Draft
draft_in bytes = draft_of (declarations_of bytes)

-- the tests that make a file declare the model of its draft
pub record Passes (bytes : List ℕ) : Type 0 where
  pub is_text : is_mps_text bytes ≡ true
  pub objective : has_objective (declarations_of bytes) ≡ true
  pub legal : list_all is_legal (declarations_of bytes) ≡ true
  pub unrefused : refusals_in_turn empty_draft (declarations_of bytes) ≡ []
  pub no_fault : file_fault (draft_in bytes) ≡ None

pub declares-from_passes : (bytes : List ℕ) → Passes bytes → DeclaresMps bytes (model_of (draft_in bytes))
declares-from_passes bytes h =
    record {
      text = h.is_text;
      means = means-from_none (declarations_of bytes) h.objective h.legal h.unrefused
          h.no_fault;
    }

abbrev pub tests : List ℕ → Bool × Bool × Bool × List BuildFault × Option Fault
tests bytes =
    let declared = declarations_of bytes in (
      is_mps_text bytes,
      has_objective declared,
      list_all is_legal declared,
      refusals_in_turn empty_draft declared,
      file_fault (draft_of declared),
    )

pub passes-from_tests : (bytes : List ℕ) → tests bytes ≡ (true, true, true, [], None) → Passes bytes
passes-from_tests bytes h =
    record {
      is_text = ap (λ t. t.0) h;
      objective = ap (λ t. t.1) h;
      legal = ap (λ t. t.2) h;
      unrefused =
          ap (λ t. t.3) h;
      no_fault = ap (λ t. t.4) h;
    }

-- ---- a small file, and the same in other bytes

abbrev pub small_lines : List (List ℕ)
small_lines = lines_of "NAME          SMALL\nROWS\n N  COST\n L  LIM1\n G  MYG\nCOLUMNS\n    X  COST  1.0  LIM1  1"
    ++ lines_of "    Y  COST  2  MYG  1.50\nRHS\n    RHS  LIM1  4  MYG  1\nENDATA"

abbrev pub small : List ℕ
small = text small_lines

abbrev pub small_with_returns : List ℕ
small_with_returns = text_with_returns small_lines

abbrev pub small_without_last_feed : List ℕ
small_without_last_feed = text (take 10 small_lines) ++ codes "ENDATA"

-- a line that would have an illegal byte
abbrev pub small_with_text_after_end : List ℕ
small_with_text_after_end = text (small_lines ++ (128 ∷ []) ∷ [])

abbrev pub small_again_lines : List (List ℕ)
small_again_lines = lines_of "NAME\nROWS\n N  COST\n L  LIM1\n G  MYG\nCOLUMNS\n    X  COST  1\n    X  LIM1  1\n    Y  COST  2"
    ++ lines_of "    Y  MYG  1.5\nRHS\n    RHS  LIM1  4\n    RHS  MYG  1\nENDATA"

-- its canonical text
abbrev pub small_again : List ℕ
small_again = text small_again_lines

abbrev pub small_maximized : List ℕ
small_maximized = text (take 1 small_lines ++ lines_of "OBJSENSE\n    MAXIMIZE" ++ drop 1 small_lines)

-- ---- ranges of both signs, before the right-hand sides

abbrev pub ranges_lines : List (List ℕ)
ranges_lines = lines_of "ROWS\n N  C\n E  E1\n E  E2\n E  E3\n G  G1\n L  L1\nCOLUMNS\n    X  E1  1  E2  1\n    X  E3  1  G1  1"
    ++ lines_of "    X  L1  1\nRANGES\n    RNG  E1  3  E2  -3\n    RNG  E3  0  G1  -2\n    RNG  L1  -2\nRHS"
    ++ lines_of "    RHS  E1  10  E2  10\n    RHS  E3  10  G1  10\n    RHS  L1  10\nENDATA"

abbrev pub ranges : List ℕ
ranges = text ranges_lines

-- ---- an integer column, by markers in fixed columns and by its bound

abbrev pub fixed_columns_lines : List (List ℕ)
fixed_columns_lines = lines_of "NAME          M\nROWS\n N  C\nCOLUMNS\n    M1        'MARKER'                 'INTORG'"
    ++ lines_of "    X         C                    1\n    M2        'MARKER'                 'INTEND'\nRHS\nENDATA"

abbrev pub fixed_columns : List ℕ
fixed_columns = text fixed_columns_lines

abbrev pub binary_bound : List ℕ
binary_bound = codes "ROWS\n N  C\nCOLUMNS\n    X  C  1\nBOUNDS\n BV BND X 1\nENDATA\n"

abbrev pub integer_without_upper : List ℕ
integer_without_upper = text (take 8 fixed_columns_lines ++ lines_of "BOUNDS\n PL BND X\nENDATA")

-- ---- a right-hand side of the objective, and bounds

abbrev one_column : List (List ℕ)
one_column = lines_of "ROWS\n N C\nCOLUMNS\n X C 1"

abbrev pub constant : List ℕ
constant = text (one_column ++ lines_of "RHS\n    RHS  C  5\nENDATA")

abbrev pub negative_upper : List ℕ
negative_upper = text (one_column ++ lines_of "BOUNDS\n UP B X -1\n MI B X\nENDATA")

abbrev pub zero_upper : List ℕ
zero_upper = text (one_column ++ lines_of "BOUNDS\n UP B X 0\nENDATA")

abbrev pub infinite_bounds : List ℕ
infinite_bounds = text (one_column ++ lines_of "BOUNDS\n LO B X -1e30\n UP B X 1e30\nENDATA")

-- ---- columns whose only coefficient is 0, and another N row

abbrev pub empty_column_lines : List (List ℕ)
empty_column_lines = lines_of "NAME\nROWS\n N  C\n L  R\n N  S\nCOLUMNS\n    X  C  0\n    Y  S  2\nRHS\n    RHS  R  3\nENDATA"

abbrev pub empty_column : List ℕ
empty_column = text empty_column_lines

-- ---- integer columns that are fixed and without an upper bound

abbrev pub integer_bounds_lines : List (List ℕ)
integer_bounds_lines =
    lines_of "NAME\nROWS\n N  obj\nCOLUMNS\n    y  obj  1\n    MARKER  'MARKER'  'INTORG'\n    x  obj  1\n    z  obj  0"
    ++ lines_of "    MARKER  'MARKER'  'INTEND'\nBOUNDS\n FX  BND  x  1\n PL  BND  z\nENDATA"

abbrev pub integer_bounds : List ℕ
integer_bounds = text integer_bounds_lines

-- ---- semi-continuous columns, one of which has a lower bound

abbrev pub semi_columns_lines : List (List ℕ)
semi_columns_lines = lines_of "NAME\nROWS\n N  obj\n L  r\nCOLUMNS\n    x  obj  1\n    x  r  1\n    y  obj  2\nRHS\n    RHS  r  3"
    ++ lines_of "BOUNDS\n SC  BND  x  4\n LO  BND  y  2\n SC  BND  y  2.5\nENDATA"

abbrev pub semi_columns : List ℕ
semi_columns = text semi_columns_lines

-- ---- a maximized model with all sections but RANGES

abbrev pub maximized_lines : List (List ℕ)
maximized_lines = lines_of "NAME\nOBJSENSE\n    MAX\nROWS\n N  obj\n L  c1\n L  c2\n E  c3\nCOLUMNS\n    x1  obj  1\n    x1  c1  -1"
    ++ lines_of "    x1  c2  1\n    x2  obj  2\n    x2  c1  1\n    x2  c2  -3\n    x2  c3  1\n    x3  obj  3"
    ++ lines_of "    x3  c1  1\n    x3  c2  1\n    MARKER  'MARKER'  'INTORG'\n    x4  obj  1\n    x4  c1  10"
    ++ lines_of "    x4  c3  -3.5\n    MARKER  'MARKER'  'INTEND'\nRHS\n    RHS  c1  20\n    RHS  c2  30\nBOUNDS"
    ++ lines_of " UP  BND  x1  40\n LO  BND  x4  2\n UP  BND  x4  3\nENDATA"

abbrev pub maximized : List ℕ
maximized = text maximized_lines

abbrev pub maximized_on_header : List ℕ
maximized_on_header = text (take 1 maximized_lines ++ codes "OBJSENSE MAX" ∷ drop 3 maximized_lines)

abbrev pub maximized_by_long_word : List ℕ
maximized_by_long_word = text (take 2 maximized_lines ++ codes "    MAXIMIZE" ∷ drop 3 maximized_lines)

-- a tab for each space between fields
abbrev tabbed : List ℕ → List ℕ
tabbed line = map (λ byte. if byte == 32 then 9 else byte) line

abbrev pub maximized_with_tabs : List ℕ
maximized_with_tabs = text (map tabbed maximized_lines)

abbrev pub not_maximized : List ℕ
not_maximized = text (take 1 maximized_lines ++ drop 3 maximized_lines)

-- ---- the layout of common tools

abbrev pub usual_layout_lines : List (List ℕ)
usual_layout_lines = lines_of "* a comment\nNAME          TEST\nROWS\n N  COST\n E  BAL\n G  DEM\nCOLUMNS" ++ lines_of
    "    MARKER                 'MARKER'                 'INTORG'"
    ++ lines_of "    A         COST         3.0000000000   BAL          1.0000000000"
    ++ lines_of "    A         DEM          1.0000000000\n    MARKER                 'MARKER'                 'INTEND'"
    ++ lines_of "    B         COST         1e+00          BAL         -1\nRHS\n    RHS       DEM          2.5\nBOUNDS"
    ++ lines_of " UP BND       A            10\n UP BND       B            4.0000000000\nENDATA"

abbrev pub usual_layout : List ℕ
usual_layout = text usual_layout_lines

-- ---- an objective named by OBJNAME among the N rows

abbrev objective_tail : List (List ℕ)
objective_tail = lines_of "ROWS\n N  C\n L  R\n N  S\nCOLUMNS\n    X  C  1  R  1\n    X  S  2\nENDATA"

abbrev pub header_objname : List ℕ
header_objname = text (lines_of "NAME\nOBJNAME\n    S" ++ objective_tail)

pub named_objective_is : (draft_in header_objname).objective ≡ Some (codes "S")
named_objective_is = refl

abbrev pub named_on_header : List ℕ
named_on_header = text (codes "OBJNAME S" ∷ objective_tail)

pub named_on_header_is : (draft_in named_on_header).objective ≡ Some (codes "S")
named_on_header_is = refl

-- before OBJSENSE, and after it
abbrev pub named_and_maximized : List ℕ
named_and_maximized = text (lines_of "OBJNAME\n    C\nOBJSENSE MAX" ++ objective_tail)

abbrev pub maximized_and_named : List ℕ
maximized_and_named = text (lines_of "OBJSENSE\n    MAX\nOBJNAME S" ++ objective_tail)

-- ---- all of them

abbrev worked_files : List (List ℕ)
worked_files = small ∷ small_with_returns ∷ small_without_last_feed ∷ small_with_text_after_end ∷ small_again ∷ small_maximized ∷ ranges
    ∷ fixed_columns ∷ binary_bound ∷ integer_without_upper ∷ constant ∷ negative_upper ∷ zero_upper ∷ infinite_bounds ∷ empty_column
    ∷ integer_bounds ∷ semi_columns ∷ maximized ∷ maximized_on_header ∷ maximized_by_long_word ∷ maximized_with_tabs ∷ not_maximized
    ∷ usual_layout ∷ header_objname ∷ named_and_maximized ∷ maximized_and_named ∷ []

pub worked_files-pass : map tests worked_files ≡ map (λ _. (true, true, true, [], None)) worked_files
unfolding trailing_zeros
worked_files-pass = refl
