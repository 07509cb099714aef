-- The errors of the form of a line of MPS text, after the lines before it, as tests in the order of their kinds.
use Rattle.std.specs.Prelude.{ℕ, Bool, true, false, ◌&&◌, ◌||◌, not, if◌then◌else◌, List, [], ◌∷◌, ◌++◌, map, codes, Option, Some, None, is_some, is_none}
use Rattle.mpslp_types.specs.Basics.{option_map_or, is_one_of, same_bytes}
use Rattle.mpslp_builder.specs.Declaration.{Draft, has_column}
pub use Rattle.mpslp_lines.specs.FaultTests.{judged_by, legal_tests, name_tests, number_tests, FaultTests}
use Rattle.mpslp_mps_fields.specs.Line.{LineContent, skipped, header, data_line, outside_comment, content_of, Fields, section_named, has, unknown_section, may_follow}
use Rattle.mpslp_mps.specs.Context.{Context}
use Rattle.mpslp_types.specs.declared.faults.FaultKind.TheVariants as kinds
use Rattle.mpslp_mps_fields.specs.DataLine.{RowLine, ValuesLine, word_shape, row_shape, row_type, column_shape, is_marker_line, third_field, marker_shape, opening_word, closing_word, vector_shape, Pair, sense_of, BoundLine, bound_type, bound_shape}
use Rattle.mpslp_mps_fields.specs.declared.{sections.Section.Section, sections.Section.TheVariants.ObjSense, sections.Section.TheVariants.ObjName, sections.Section.TheVariants.Rows, sections.Section.TheVariants.Columns, sections.Section.TheVariants.Rhs, sections.Section.TheVariants.Ranges, sections.Section.TheVariants.Bounds, sections.Section.TheVariants.Name, bound_types.BoundType.BoundType}

-- ---- headers

-- whether a section that has not begun may begin here
abbrev pub may_begin : Context → Section → Bool
may_begin context Name = is_none context.section
may_begin context ObjSense = not (has context.sections_seen Rows)
may_begin context ObjName = not (has context.sections_seen Rows)
may_begin context Rows = true
may_begin context Columns = has context.sections_seen Rows
may_begin context _ = has context.sections_seen Columns

-- a header before a missing word, and a section out of order
abbrev pub is_out_of_order : Context → Section → Bool
is_out_of_order context section = is_some context.word_due || not (has context.sections_seen section || may_begin context section)

abbrev pub word_tests : List ℕ → FaultTests
word_tests word = (is_none (sense_of word), kinds.BadType) ∷ []

-- OBJNAME names the objective, but no N row before has that name
abbrev pub lacks_objective : Context → Draft → Bool
lacks_objective context earlier = is_none earlier.objective && is_some context.objname

-- the word of OBJSENSE, and the objective that OBJNAME names, which must be in ROWS
abbrev pub section_tests : Context → Draft → Section → Fields → FaultTests
section_tests context earlier ObjSense (word ∷ _) = word_tests word
section_tests context earlier Columns more = (lacks_objective context earlier, kinds.UnknownRow) ∷ []
section_tests context earlier _ more = []

abbrev pub header_tests : Context → Draft → List ℕ → Fields → Option Section → FaultTests
header_tests context earlier keyword more None = (true, unknown_section keyword) ∷ []
header_tests context earlier keyword more (Some section) =
    (is_out_of_order context section, kinds.SectionOrder)
    ∷ (has context.sections_seen section, kinds.SectionRepeated)
    ∷ (not (may_follow section more), kinds.FieldCount)
    ∷ section_tests context earlier section more

-- ---- pairs and set names

abbrev pub literals_of : List Pair → List (List ℕ)
literals_of pairs = map (λ pair. pair.literal) pairs

-- all lines of a section have the set name of its first line
abbrev pub set_tests : Option (List ℕ) → List ℕ → FaultTests
set_tests first set = (option_map_or (λ name. not (same_bytes name set)) first false, kinds.SecondSet) ∷ []

-- ---- data lines

abbrev pub row_line_tests : RowLine → FaultTests
row_line_tests line = (is_none (row_type line.letter), kinds.BadType) ∷ name_tests line.name

-- a special ordered set, even if the line has a wrong number of fields
abbrev pub is_sos_marker : Fields → Bool
is_sos_marker fields = option_map_or (is_one_of (codes "'SOSORG'" ∷ codes "'SOSEND'" ∷ [])) (third_field fields) false

-- a marker line closes the integer block if one is open, and opens one elsewhere
abbrev pub marker_word_tests : Context → List ℕ → FaultTests
marker_word_tests context word = (not (same_bytes word (if context.in_integer_part then closing_word else opening_word)), kinds.BadMarker) ∷ []

abbrev pub marker_tests : Context → Fields → FaultTests
marker_tests context fields = (is_sos_marker fields, kinds.Sos) ∷ judged_by (marker_word_tests context) (marker_shape fields)

-- the column has earlier lines, but the last line is not one of them: the lines of a column must be contiguous
abbrev pub is_split : Context → Draft → List ℕ → Bool
is_split context earlier column = has_column earlier column && not (option_map_or (same_bytes column) context.last_column false)

abbrev pub column_tests : Context → Draft → ValuesLine → FaultTests
column_tests context earlier line =
    name_tests line.name ++ (number_tests (literals_of line.pairs) ++ (is_split context earlier line.name, kinds.ColumnSplit) ∷ [])

abbrev pub columns_line_tests : Context → Draft → Fields → FaultTests
columns_line_tests context earlier fields =
    if is_marker_line fields then marker_tests context fields else judged_by (column_tests context earlier) (column_shape fields)

abbrev pub vector_tests : Option (List ℕ) → ValuesLine → FaultTests
vector_tests first line = number_tests (literals_of line.pairs) ++ set_tests first line.name

abbrev pub bound_tests : Context → BoundLine → FaultTests
bound_tests context line = option_map_or (λ literal. number_tests (literal ∷ [])) line.literal [] ++ set_tests context.bounds_set line.set

-- for an unknown type the number of fields is not checked
abbrev pub typed_bound_tests : Context → Fields → Option BoundType → FaultTests
typed_bound_tests context more None = (true, kinds.BadType) ∷ []
typed_bound_tests context more (Some type) = judged_by (bound_tests context) (bound_shape type more)

abbrev pub bound_line_tests : Context → Fields → FaultTests
bound_line_tests context [] = []
bound_line_tests context (letters ∷ more) = typed_bound_tests context more (bound_type letters)

-- a data line under NAME, before any header, or under an OBJSENSE or OBJNAME that has its word; the word of OBJNAME is not
-- checked
abbrev pub data_tests : Context → Draft → Fields → Option Section → FaultTests
data_tests context earlier fields (Some ObjSense) = (not (is_some context.word_due), kinds.SectionOrder) ∷ judged_by word_tests (word_shape fields)
data_tests context earlier fields (Some ObjName) = (not (is_some context.word_due), kinds.SectionOrder) ∷ judged_by (λ _. []) (word_shape fields)
data_tests context earlier fields (Some Rows) = judged_by row_line_tests (row_shape fields)
data_tests context earlier fields (Some Columns) = columns_line_tests context earlier fields
data_tests context earlier fields (Some Rhs) = judged_by (vector_tests context.rhs_set) (vector_shape fields)
data_tests context earlier fields (Some Ranges) = judged_by (vector_tests context.ranges_set) (vector_shape fields)
data_tests context earlier fields (Some Bounds) = bound_line_tests context fields
data_tests context earlier fields _ = (true, kinds.SectionOrder) ∷ []

-- ---- lines

-- the tests of the content of a line
abbrev pub item_tests : Context → Draft → LineContent → FaultTests
item_tests context earlier skipped = []
item_tests context earlier (header keyword more) = header_tests context earlier keyword more (section_named keyword)
item_tests context earlier (data_line fields) = data_tests context earlier fields context.section

-- the tests of a line: those of its length and bytes come first
abbrev pub line_tests : Context → Draft → List ℕ → FaultTests
line_tests context earlier line = legal_tests line (outside_comment line) ++ item_tests context earlier (content_of line)
