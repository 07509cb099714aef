-- Worked files and lines, by computation: each definition holds for those with its error, and for no correct one.
use Rattle.mpslp_mps_sentences.proofs.Prelude
use Prelude.{◌≡◌, refl, ◌-◌, take, drop, codes, is_text_in_words, text, small, small_with_returns, small_with_text_after_end}
use Prelude.{small_maximized, ranges, lines, ◌||◌, list_all, list_any, LineContent, content_of, read_lines, semi_columns, maximized}
use Prelude.{integer_bounds, repeats_section, occurs_out_of_order, is_wrong_marker, is_of_second_set, splits_column, repeats_row}
use Prelude.{names_unknown_row, names_unknown_column, repeats_entry, Option, Some, Fault, DuplicateBound, DuplicateRange, DuplicateRhs}
use Prelude.{RangeOnFree, SemiContinuous, fault_on_line, first_mps_fault, Passes, binary_bound, integer_without_upper, constant}
use Prelude.{negative_upper, infinite_bounds, named_on_header, repeats_side, repeats_range, repeats_bound, ranges_free_row}
use Prelude.{makes_both_kinds}
use Rattle.std.specs.Prelude.{ℕ, Bool, true, false, List, ◌∷◌, [], ◌++◌, map}
use Rattle.mpslp_decimal.specs.Decimal.{trailing_zeros}
use Prim.Native.String.{String}

-- ---- worked files satisfy `TextInWords` if they declare a model, and not if they have an error of form, by
-- computation

-- the lines of a text
abbrev pub lines_of : String → List (List ℕ)
lines_of s = lines (codes s)

abbrev worked_files : List (List ℕ × Bool)
worked_files = (small, true) ∷ (small_with_returns, true) ∷ (small_with_text_after_end, true) ∷
    (small_maximized, true) ∷ (ranges, true) ∷ []

pub worked_files-right : map (λ row. is_text_in_words row.0) worked_files ≡ map (λ row. row.1) worked_files
unfolding trailing_zeros
worked_files-right = refl

-- ---- changes of a file of 13 lines

abbrev base : List (List ℕ)
base = lines_of "NAME\nROWS\n N  C\n L  R\nCOLUMNS\n    X  C  1\n    X  R  1\n    Y  C  1\nRHS\n    A  R  1\nBOUNDS" ++
    lines_of " UP  B  X  4\nENDATA"

-- the line with this number, counted from 1, is replaced
abbrev with_line : ℕ → String → List ℕ
with_line n line = text (take (n - 1) base ++ codes line ∷ drop n base)

-- one more line after the one with this number
abbrev with_line_after : ℕ → String → List ℕ
with_line_after n line = text (take n base ++ codes line ∷ drop n base)

abbrev changed_files : List (List ℕ × Bool)
changed_files = (text base, true) ∷ (with_line 12 " SC  B  X  4", true) ∷ (with_line_after 1 "OBJNAME C", true)
    ∷ (with_line_after 1 "OBJNAME R", false) ∷ (with_line_after 1 "OBJSENSE", false) ∷ (with_line_after 4 "OBJSENSE MAX", false)
    ∷ (with_line_after 12 "QUADOBJ", false) ∷ (with_line_after 12 "ROWS", false) ∷ (with_line_after 1 " N  C", false)
    ∷ (with_line 4 " X  R", false) ∷ (with_line 7 "    X  R  1x", false) ∷ (with_line 8 "    M  'MARKER'  'INTEND'", false)
    ∷ (with_line 8 "    M  'MARKER'  'SOSORG'", false) ∷ (with_line_after 8 "    X  R  1", false) ∷
    (with_line_after 6 "    M  'MARKER'  'INTORG'", false)
    ∷ (with_line_after 10 "    A2  R  1", false) ∷ (with_line 12 " SC  B", false) ∷ (text (take 12 base), false) ∷ []

pub changed_files-right : map (λ row. is_text_in_words row.0) changed_files ≡ map (λ row. row.1) changed_files
unfolding trailing_zeros
changed_files-right = refl

-- ---- `FaultsInWords` on worked lines, by computation: each definition holds for lines with its error, and for no
-- correct line

abbrev contents : String → List LineContent
contents s = map content_of (lines_of s)

abbrev lines_before : List LineContent
lines_before = contents "NAME\nROWS\n N  C\n L  R\nCOLUMNS\n    X  C  1\n    X  R  1\n    Y  C  1"

abbrev sides_before : List LineContent
sides_before = lines_before ++ contents "RHS\n    A  R  1"

-- ---- lines with an error

abbrev faulty_lines : List ((List LineContent → LineContent → Bool) × List LineContent × String)
faulty_lines = (repeats_section, lines_before, "COLUMNS") ∷ (occurs_out_of_order, contents "OBJSENSE", "ROWS")
    ∷ (occurs_out_of_order, lines_before, "OBJSENSE MAX") ∷ (occurs_out_of_order, contents "ROWS", "BOUNDS")
    ∷ (occurs_out_of_order, [], " N  C") ∷ (occurs_out_of_order, contents "OBJSENSE MAX", "    MIN")
    ∷ (is_wrong_marker, lines_before, "    M  'MARKER'  'INTEND'") ∷ (is_of_second_set, sides_before, "    B  C  1")
    ∷ (is_of_second_set, sides_before, "    C  1") ∷ (splits_column, lines_before, "    X  R  2")
    ∷ (repeats_row, contents "ROWS\n N  C", " L  C") ∷ (repeats_row, contents "ROWS\n L  obj", "COLUMNS")
    ∷ (names_unknown_row, lines_before, "    Y  S  1") ∷ (names_unknown_row, contents "OBJNAME R\nROWS\n L  R", "COLUMNS")
    ∷ (names_unknown_column, lines_before ++ contents "BOUNDS", " UP  B  Z  4") ∷ (repeats_entry, lines_before, "    Y  C  1")
    ∷ (repeats_entry, lines_before, "    Z  R  1  R  2") ∷ []

pub faulty_lines-found : list_all (λ row. row.0 row.1 (content_of (codes row.2))) faulty_lines ≡ true
faulty_lines-found = refl

-- ---- a file without an error has no such line

abbrev is_any : List LineContent → LineContent → Bool
is_any before item = repeats_section before item
    || (occurs_out_of_order before item ||
    (is_wrong_marker before item || (is_of_second_set before item || (splits_column before item
    || (repeats_row before item ||
    (names_unknown_row before item || (names_unknown_column before item || repeats_entry before item)))))))

abbrev has_such : List LineContent → List LineContent → Bool
has_such before [] = false
has_such before (item ∷ items) = is_any before item || has_such (before ++ item ∷ []) items

abbrev has_such_line : List ℕ → Bool
has_such_line bytes = has_such [] (map content_of (read_lines bytes))

abbrev good_files : List (List ℕ)
good_files = small ∷ ranges ∷ semi_columns ∷ maximized ∷ integer_bounds ∷ []

pub good_files-have_none : list_any has_such_line good_files ≡ false
good_files-have_none = refl

-- ---- `ValueFaultsInWords` on worked lines, by computation: each definition holds for lines with its error, and for no
-- near miss

-- lines, more lines, one line after them, and whether it is such a line
abbrev Case : Type 0
Case = List (List ℕ) × String × String × Bool

abbrev judged : (List LineContent → LineContent → Bool) → List Case → List Bool
judged is_such cases = map (λ row. is_such (map content_of (row.0 ++ lines_of row.1)) (content_of (codes row.2))) cases

-- two N rows, and a column in an integer block
abbrev front : List (List ℕ)
front = lines_of "ROWS\n N  C\n N  F\n L  R\n G  S\nCOLUMNS\n    W  C  1\n    M  'MARKER'  'INTORG'\n    X  C  1"
    ++ lines_of "    M  'MARKER'  'INTEND'\n    Y  R  1\n    Z  S  1"

-- OBJNAME gives the second
abbrev named_front : List (List ℕ)
named_front = codes "OBJNAME F" ∷ front

-- no N row: the objective is `obj`
abbrev default_front : List (List ℕ)
default_front = lines_of "ROWS\n L  R\nCOLUMNS\n    X  R  1"

-- ---- RangeOnFree

abbrev ranges_of_free_rows : List Case
ranges_of_free_rows =
    (front, "RANGES", "    G  C  1", true) ∷
    (front, "RANGES", "    G  F  1", true) ∷
    (front, "RANGES", "    G  R  1  F  1", true) ∷
    (front, "RANGES", "    C  1", true) ∷
    (default_front, "RANGES", "    G  obj  1", true) ∷
    (front, "RANGES", "    G  R  1  S  1", false) ∷
    -- `obj` is no row if an N row is there: `UnknownRow`
    (front, "RANGES", "    G  obj  1", false) ∷
    (front, "RHS", "    G  C  1", false) ∷
    []

pub ranges_of_free_rows-right : judged ranges_free_row ranges_of_free_rows ≡ map (λ row. row.3) ranges_of_free_rows
ranges_of_free_rows-right = refl

-- ---- DuplicateRange

abbrev repeated_ranges : List Case
repeated_ranges = (front, "RANGES\n    G  R  1", "    G  R  1", true) ∷ (front, "RANGES\n    G  S  1  R  1", "    G  R  2", true)
    ∷ (front, "RANGES", "    G  R  1  R  2", true) ∷ (front, "RANGES", "    G  F  1  F  2", true) ∷
    (front, "RANGES\n    G  R  1", "    G  S  1", false)
    ∷ (front, "RHS\n    G  R  1\nRANGES", "    G  R  1", false) ∷ (front, "RANGES\n    G  R  1\nRHS", "    G  R  1", false) ∷ []

pub repeated_ranges-right : judged repeats_range repeated_ranges ≡ map (λ row. row.3) repeated_ranges
repeated_ranges-right = refl

-- ---- DuplicateRhs

abbrev repeated_sides : List Case
repeated_sides = (front, "RHS\n    A  R  1", "    A  R  1", true) ∷ (front, "RHS", "    A  R  1  R  2", true)
    ∷ (front, "RHS\n    A  C  1", "    A  R  1  C  1", true) ∷ (default_front, "RHS\n    A  obj  1", "    A  obj  1", true)
    ∷ (named_front, "RHS\n    A  F  1", "    A  F  1", true) ∷ (front, "RHS\n    A  R  1", "    A  S  1", false)
    ∷ (front, "RHS\n    A  F  1", "    A  F  1", false) ∷ (front, "RHS", "    A  F  1  F  1", false)
    ∷ (named_front, "RHS\n    A  C  1", "    A  C  1", false) ∷ (front, "RANGES\n    G  R  1\nRHS", "    A  R  1", false) ∷ []

pub repeated_sides-right : judged repeats_side repeated_sides ≡ map (λ row. row.3) repeated_sides
repeated_sides-right = refl

-- ---- DuplicateBound

abbrev repeated_bounds : List Case
repeated_bounds =
    (front, "BOUNDS\n UP  B  Y  4", " UP  B  Y  4", true) ∷
    (front, "BOUNDS\n UP  B  Y  4", " FX  B  Y  4", true) ∷
    (front, "BOUNDS\n LO  B  Y  4", " FX  B  Y  4", true) ∷
    (front, "BOUNDS\n LO  B  Y  4", " FR  B  Y", true) ∷
    (front, "BOUNDS\n FR  B  Y", " UP  B  Y  4", true) ∷
    (front, "BOUNDS\n MI  B  Y", " LO  B  Y  4", true) ∷
    (front, "BOUNDS\n PL  B  Y", " UP  B  Y  4", true) ∷
    (front, "BOUNDS\n UP  B  Y  4", " BV  B  Y", true) ∷
    (front, "BOUNDS\n BV  B  Y", " LO  B  Y  0", true) ∷
    (front, "BOUNDS\n UP  B  Y  4", " SC  B  Y  4", true) ∷
    (front, "BOUNDS\n UP  B  Y  4", " UI  B  Y  4", true) ∷
    (front, "BOUNDS\n LI  B  Y  4", " LO  B  Y  4", true) ∷
    (front, "BOUNDS\n LO  B  Y  1", " UP  B  Y  4", false) ∷
    (front, "BOUNDS\n UP  B  Y  4", " LO  B  Y  1", false) ∷
    (front, "BOUNDS\n MI  B  Y", " UP  B  Y  4", false) ∷
    (front, "BOUNDS\n PL  B  Y", " LO  B  Y  1", false) ∷
    (front, "BOUNDS\n LI  B  Y  1", " UI  B  Y  4", false) ∷
    (front, "BOUNDS\n SC  B  Y  4", " LO  B  Y  1", false) ∷
    (front, "BOUNDS\n UP  B  Y  4", " UP  B  Z  4", false) ∷
    -- its number of fields is wrong: `FieldCount`
    (front, "BOUNDS\n UP  B  Y  4", " UP  Y", false) ∷
    []

pub repeated_bounds-right : judged repeats_bound repeated_bounds ≡ map (λ row. row.3) repeated_bounds
repeated_bounds-right = refl

-- ---- SemiContinuous

abbrev columns_of_both_kinds : List Case
columns_of_both_kinds =
    (front, "BOUNDS", " SC  B  X  4", true) ∷
    (front, "BOUNDS\n BV  B  Y", " SC  B  Y  4", true) ∷
    (front, "BOUNDS\n LI  B  Y  1", " SC  B  Y  4", true) ∷
    (front, "BOUNDS\n UI  B  Y  4", " SC  B  Y  4", true) ∷
    (front, "BOUNDS\n SC  B  Y  4", " BV  B  Y", true) ∷
    (front, "BOUNDS\n SC  B  Y  4", " LI  B  Y  1", true) ∷
    (front, "BOUNDS\n SC  B  Y  4", " UI  B  Y  4", true) ∷
    (front, "BOUNDS\n SC  B  Y  4", " UI  B  Y  4x", true) ∷
    (front, "BOUNDS\n SC  B  Y  4", " SC  B  Y  4", false) ∷
    (front, "BOUNDS\n SC  B  Y  4", " UP  B  Y  4", false) ∷
    (front, "BOUNDS\n BV  B  Y", " BV  B  Y", false) ∷
    (front, "BOUNDS\n BV  B  Y", " SC  B  Z  4", false) ∷
    (front, "BOUNDS", " SC  B  W  4", false) ∷
    (front, "BOUNDS", " SC  B  Y  4", false) ∷
    -- its number of fields is wrong: `FieldCount`
    (front, "BOUNDS", " SC  X", false) ∷
    (front, "BOUNDS", " BV  B  X", false) ∷
    []

pub columns_of_both_kinds-right : judged makes_both_kinds columns_of_both_kinds ≡ map (λ row. row.3) columns_of_both_kinds
columns_of_both_kinds-right = refl

-- ---- such a line after a file without an error is its first error

-- all sections, with what may be repeated
abbrev whole : List (List ℕ)
whole = front ++ lines_of "RHS\n    A  R  1  C  2\n    A  F  1  F  2\n    A  F  3  S  4\nRANGES\n    G  R  1\n    G  S  1\nBOUNDS"
    ++ lines_of " MI  B  W\n UP  B  W  4\n LI  B  X  1\n UI  B  X  4\n LO  B  Y  1\n SC  B  Y  4\n SC  B  Z  4"

abbrev whole_text : List ℕ
whole_text = text (whole ++ lines_of "ENDATA")

pub whole_passes : Passes whole_text
unfolding trailing_zeros
whole_passes = record { is_text = refl; objective = refl; legal = refl; unrefused = refl; no_fault = refl }

abbrev faulty_files : List (List ℕ × Option Fault)
faulty_files = (text (whole ++ lines_of " UP  B  W  5\nENDATA"), Some (fault_on_line 28 DuplicateBound))
    ∷ (text (whole ++ lines_of " SC  B  X  9\nENDATA"), Some (fault_on_line 28 SemiContinuous))
    ∷ (text (whole ++ lines_of " UI  B  Z  9\nENDATA"), Some (fault_on_line 28 SemiContinuous))
    ∷ (text (front ++ lines_of "RHS\n    A  R  1\n    A  C  1  R  2\nENDATA"), Some (fault_on_line 15 DuplicateRhs))
    ∷ (text (front ++ lines_of "RHS\n    A  C  1\n    A  C  1\nENDATA"), Some (fault_on_line 15 DuplicateRhs))
    ∷ (text (front ++ lines_of "RANGES\n    G  R  1\n    G  S  1  R  2\nENDATA"), Some (fault_on_line 15 DuplicateRange))
    ∷ (text (front ++ lines_of "RANGES\n    G  R  1\n    G  F  1\nENDATA"), Some (fault_on_line 15 RangeOnFree)) ∷ []

pub faulty_files-right : map (λ row. first_mps_fault row.0) faulty_files ≡ map (λ row. row.1) faulty_files
unfolding trailing_zeros
faulty_files-right = refl

-- ---- a file without an error has no such line

abbrev is_any_value : List LineContent → LineContent → Bool
is_any_value before item = repeats_side before item
    || (repeats_range before item || (repeats_bound before item || (ranges_free_row before item || makes_both_kinds before item)))

abbrev has_such_value : List LineContent → List LineContent → Bool
has_such_value before [] = false
has_such_value before (item ∷ items) = is_any_value before item || has_such_value (before ++ item ∷ []) items

abbrev has_value_line : List ℕ → Bool
has_value_line bytes = has_such_value [] (map content_of (read_lines bytes))

abbrev value_files : List (List ℕ)
value_files = whole_text ∷ small ∷ ranges ∷ binary_bound ∷ integer_without_upper ∷ constant ∷ negative_upper ∷ infinite_bounds
    ∷ integer_bounds ∷ semi_columns ∷ maximized ∷ named_on_header ∷ []

pub value_files-have_none : list_any has_value_line value_files ≡ false
value_files-have_none = refl
