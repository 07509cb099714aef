-- The canonical MPS text of a model, and how its lines are printed.
use Rattle.std.specs.Prelude.{ℕ, Bool, not, if◌then◌else◌, List, [], ◌∷◌, ◌++◌, map, filter, filter_map, codes, Option}
use Rattle.mpslp_types.specs.Basics.{flat_map, join_by, option_map_or, option_map, find_entry as find, with_line_feeds, Number, is_zero, zero_number, negated, marker}
use Rattle.mpslp_decimal.specs.NumberText.{number_text}
use Rattle.mpslp_model_core.specs.Model.{LinearModel, Row, Column, CoefficientKey, key_cmp, is_integer_column as has_integer_kind, Listing, listing_of}
use Rattle.mpslp_types.specs.declared.kinds.{Sense.Sense, Sense.TheVariants.Minimize, Sense.TheVariants.Maximize, RowType.TheVariants.Free}
use Rattle.mpslp_mps_fields.specs.Line.{keyword_of, Fields}
use Rattle.mpslp_mps_fields.specs.DataLine.{letter_of, opening_word, closing_word, letters_of}
use Rattle.mpslp_mps_fields.specs.declared.sections.Section.{Section, TheVariants.Name, TheVariants.ObjSense, TheVariants.Rows, TheVariants.Columns, TheVariants.Rhs, TheVariants.Ranges, TheVariants.Bounds, TheVariants.EndData}
use Rattle.mpslp_mps_text.specs.PrintedValues.{printed_type, printed_rhs, printed_range, PrintedBound, printed_bounds}

-- ---- lines: their fields, and how they are printed

-- a header; a data line after one space; a data line after four spaces
pub data PrintedLine : Type 0 where
  heading : List ℕ → PrintedLine
  short_line : Fields → PrintedLine
  long_line : Fields → PrintedLine

-- two spaces between the fields
abbrev pub fields_text : Fields → List ℕ
fields_text fields = join_by (λ field. field) (codes "  ") fields

abbrev pub line_text : PrintedLine → List ℕ
line_text (heading keyword) = keyword
line_text (short_line fields) = codes " " ++ fields_text fields
line_text (long_line fields) = codes "    " ++ fields_text fields

abbrev pub text_of : List PrintedLine → List ℕ
text_of lines = with_line_feeds (map line_text lines)

abbrev pub Lines : Type 0
Lines = List PrintedLine

abbrev pub header_line : Section → PrintedLine
header_line section = heading (keyword_of section)

-- a section whose header is printed only if there are lines
abbrev pub under_header : Section → Lines → Lines
under_header section [] = []
under_header section (line ∷ lines) = header_line section ∷ line ∷ lines

-- ---- OBJSENSE, if the objective is maximized

abbrev pub maximize_line : PrintedLine
maximize_line = long_line (codes "MAX" ∷ [])

abbrev pub sense_lines : Sense → Lines
sense_lines Minimize = []
sense_lines Maximize = header_line ObjSense ∷ maximize_line ∷ []

-- ---- ROWS: the objective, then the rows

abbrev pub objective_line : List ℕ → PrintedLine
objective_line objective = short_line (letter_of Free ∷ objective ∷ [])

abbrev pub row_line : List ℕ × Row → PrintedLine
row_line row = short_line (letter_of (printed_type row.1.lower row.1.upper) ∷ row.0 ∷ [])

abbrev pub rows_section : Listing → Lines
rows_section m = header_line Rows ∷ objective_line m.objective ∷ map row_line m.rows

-- ---- COLUMNS: the columns that are not integer, then the integer ones between marker lines

-- a column, the objective or a row, and the value
abbrev pub coefficient_line : List ℕ → List ℕ × Number → PrintedLine
coefficient_line column cell = long_line (column ∷ cell.0 ∷ number_text cell.1 ∷ [])

-- the coefficient of a row, or of the objective, if the column has one there
abbrev pub cell_at : List (CoefficientKey × Number) → List ℕ → List ℕ → Option (List ℕ × Number)
cell_at coefficients column row = option_map (λ value. (row, value)) (find key_cmp (record { row = row; column = column }) coefficients)

-- the objective first, then the rows
abbrev pub column_coefficients : Listing → List ℕ → List (List ℕ × Number)
column_coefficients m column = filter_map (cell_at m.coefficients column) (m.objective ∷ map (λ row. row.0) m.rows)

-- a column without coefficients has one line, with 0 in the objective
abbrev pub printed_coefficients : List ℕ → List (List ℕ × Number) → List (List ℕ × Number)
printed_coefficients objective [] = (objective, zero_number) ∷ []
printed_coefficients objective (cell ∷ cells) = cell ∷ cells

abbrev pub column_lines : Listing → List ℕ × Column → Lines
column_lines m column = map (coefficient_line column.0) (printed_coefficients m.objective (column_coefficients m column.0))

abbrev pub is_integer_column : List ℕ × Column → Bool
is_integer_column column = has_integer_kind column.1

-- a continuous or a semi-continuous column
abbrev pub is_plain_column : List ℕ × Column → Bool
is_plain_column column = not (is_integer_column column)

abbrev pub marker_line : List ℕ → PrintedLine
marker_line word = long_line (codes "MARKER" ∷ marker ∷ word ∷ [])

abbrev pub integer_part : Lines → Lines
integer_part [] = []
integer_part (line ∷ lines) = marker_line opening_word ∷ (line ∷ lines) ++ marker_line closing_word ∷ []

abbrev pub columns_section : Listing → Lines
columns_section m =
    header_line Columns ∷ (flat_map (column_lines m) (filter is_plain_column m.columns)
    ++ integer_part (flat_map (column_lines m) (filter is_integer_column m.columns)))

-- ---- RHS: the negated constant of the objective, then the right-hand sides of the rows, if they are not 0

-- a set name, a row or the objective, and a value
abbrev pub vector_line : List ℕ → List ℕ → Number → PrintedLine
vector_line set row value = long_line (set ∷ row ∷ number_text value ∷ [])

abbrev pub rhs_line : List ℕ → Number → PrintedLine
rhs_line row value = vector_line (codes "RHS") row value

abbrev pub rhs_lines : List ℕ → Number → Lines
rhs_lines row value = if is_zero value then [] else rhs_line row value ∷ []

abbrev pub row_rhs_lines : List ℕ × Row → Lines
row_rhs_lines row = rhs_lines row.0 (printed_rhs row.1.lower row.1.upper)

abbrev pub rhs_section : Listing → Lines
rhs_section m = under_header Rhs (rhs_lines m.objective (negated m.constant) ++ flat_map row_rhs_lines m.rows)

-- ---- RANGES: the ranged rows

abbrev pub range_line : List ℕ → Number → PrintedLine
range_line row value = vector_line (codes "RNG") row value

abbrev pub range_lines : List ℕ × Row → Lines
range_lines row = option_map_or (λ value. range_line row.0 value ∷ []) (printed_range row.1.lower row.1.upper) []

abbrev pub ranges_section : Listing → Lines
ranges_section m = under_header Ranges (flat_map range_lines m.rows)

-- ---- BOUNDS: all columns in byte order

abbrev pub bound_line : List ℕ → PrintedBound → PrintedLine
bound_line column bound =
    short_line (letters_of bound.type ∷ codes "BND" ∷ column ∷ option_map_or (λ value. number_text value ∷ []) bound.value [])

abbrev pub column_bound_lines : List ℕ × Column → Lines
column_bound_lines column = map (bound_line column.0) (printed_bounds column.1.kind column.1.lower column.1.upper)

abbrev pub bounds_section : Listing → Lines
bounds_section m = under_header Bounds (flat_map column_bound_lines m.columns)

-- ---- the text

abbrev pub listed_lines : Listing → Lines
listed_lines m =
    header_line Name ∷ (sense_lines m.sense ++ (rows_section m ++ (columns_section m
    ++ (rhs_section m ++ (ranges_section m ++ (bounds_section m ++ header_line EndData ∷ []))))))

abbrev pub canonical_lines : LinearModel → Lines
canonical_lines m = listed_lines (listing_of m)

abbrev pub canonical_mps : LinearModel → List ℕ
canonical_mps m = text_of (canonical_lines m)
