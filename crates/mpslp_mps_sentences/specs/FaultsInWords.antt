-- Errors of MPS text that depend on other lines, each defined by the line and all lines before it.
use Rattle.std.specs.Prelude.{◌≡◌, ℕ, ◌+◌, ◌-◌, ◌^◌, min, nat_lt, Bool, true, false, ◌&&◌, ◌||◌, not, List, [], ◌∷◌, ◌++◌, length, map, filter_map, Option, Some, None, if◌then◌else◌, codes}
use Rattle.std.specs.List.{list_any, flat_map}
use Rattle.std.specs.Option.{option_map, option_map_or}
use Rattle.mpslp_types.specs.Name.{same_bytes}
use Rattle.mpslp_types.specs.declared.faults.Fault.{Fault}
use Rattle.mpslp_types.specs.declared.faults.FaultKind.{FaultKind}
use Rattle.mpslp_types.specs.Lists.{is_nonempty}
use Rattle.mpslp_mps_fields.specs.Line.{Fields, LineContent, skipped, header, data_line, content_of, section_named, is_section, takes_word}
use Rattle.mpslp_mps_fields.specs.DataLine.{Pair, ValuesLine, row_shape, row_type, column_shape, is_marker_line, opening_word, closing_word, vector_shape, bound_type, bound_shape}
use Rattle.mpslp_mps.specs.Context.{current_section, seen_sections, data_lines, marker_word, line_column, vector_set, bound_set}
use Rattle.mpslp_mps.specs.SeenSection.{has_section}
use Rattle.mpslp_mps_sentences.specs.TextInWords.{section_rank, takes_data, words_in, has_named_objective, alternate, same_column, are_together, is_free}
use Rattle.mpslp_mps.specs.MpsText.{read_lines}
use Rattle.mpslp_mps.specs.FirstFault.{IsFirstMpsFault}
use Rattle.mpslp_mps_fields.specs.declared.sections.Section.{Section}
use Rattle.mpslp_mps_fields.specs.declared.sections.Section.TheVariants.{Rows, Columns, Rhs, Ranges, Bounds, EndData, ObjName}

-- ---- SectionRepeated: a header whose section already has a header

abbrev pub repeats_section : List LineContent → LineContent → Bool
repeats_section before (header keyword more) = option_map_or (has_section before) (section_named keyword) false
repeats_section before _ = false

-- ---- SectionOrder: a header or a data line where it is not allowed

-- a section that must come before this one is missing
abbrev pub comes_early : List LineContent → Section → Bool
comes_early before Columns = not (has_section before Rows)
comes_early before Rhs = not (has_section before Columns)
comes_early before Ranges = not (has_section before Columns)
comes_early before Bounds = not (has_section before Columns)
comes_early before EndData = not (has_section before Columns)
comes_early before _ = false

-- a section that must come after this one has begun
abbrev pub comes_late : List LineContent → Section → Bool
comes_late before section = list_any (λ other. nat_lt (section_rank section) (section_rank other)) (seen_sections before)

-- OBJSENSE or OBJNAME has its word, on its header or on a line of its own
abbrev pub has_its_word : List LineContent → Section → Bool
has_its_word before section = is_nonempty (flat_map (λ fields. fields) (words_in section before))

-- the last header is that of OBJSENSE or OBJNAME, and its word is still missing
abbrev pub is_without_word : List LineContent → Section → Bool
is_without_word before section = takes_word section && not (has_its_word before section)

-- under NAME, or under an OBJSENSE or OBJNAME that has its word, no data line is allowed
abbrev pub is_closed : List LineContent → Section → Bool
is_closed before section = not (takes_data section) || (takes_word section && has_its_word before section)

-- nor is a data line before the first header
abbrev pub occurs_out_of_order : List LineContent → LineContent → Bool
occurs_out_of_order before (header keyword more) =
    option_map_or (is_without_word before) (current_section before) false
    || option_map_or (λ section. not (has_section before section) && (comes_early before section || comes_late before section)) (section_named keyword) false
occurs_out_of_order before (data_line fields) = option_map_or (is_closed before) (current_section before) true
occurs_out_of_order before skipped = false

-- ---- BadMarker: a marker line with which those of COLUMNS do not open and close in turn

abbrev pub breaks_turn : List LineContent → Fields → Bool
breaks_turn before fields = option_map_or (λ word. not (alternate opening_word closing_word (filter_map marker_word (data_lines Columns before) ++ word ∷ []))) (marker_word fields) false

abbrev pub is_wrong_marker : List LineContent → LineContent → Bool
is_wrong_marker before (data_line fields) = is_section Columns (current_section before) && breaks_turn before fields
is_wrong_marker before _ = false

-- ---- SecondSet: a line of RHS, RANGES or BOUNDS whose set name differs from that of an earlier line in its section

abbrev pub differs_from : List (List ℕ) → List ℕ → Bool
differs_from sets set = list_any (λ other. not (same_bytes other set)) sets

abbrev pub has_other_set : (Fields → Option (List ℕ)) → List Fields → Fields → Bool
has_other_set set_of lines fields = option_map_or (differs_from (filter_map set_of lines)) (set_of fields) false

abbrev pub has_second_set : List LineContent → Fields → Option Section → Bool
has_second_set before fields (Some Rhs) = has_other_set vector_set (data_lines Rhs before) fields
has_second_set before fields (Some Ranges) = has_other_set vector_set (data_lines Ranges before) fields
has_second_set before fields (Some Bounds) = has_other_set bound_set (data_lines Bounds before) fields
has_second_set before fields _ = false

abbrev pub is_of_second_set : List LineContent → LineContent → Bool
is_of_second_set before (data_line fields) = has_second_set before fields (current_section before)
is_of_second_set before _ = false

-- ---- ColumnSplit: a line of COLUMNS with which the lines of a column are not contiguous

abbrev pub splits_column : List LineContent → LineContent → Bool
splits_column before (data_line fields) = is_section Columns (current_section before) && not (are_together (map line_column (data_lines Columns before) ++ line_column fields ∷ []))
splits_column before _ = false

-- ---- rows: those of ROWS, and `obj` if none is of type N and OBJNAME has no word

abbrev pub row_name : Fields → Option (List ℕ)
row_name fields = option_map (λ line. line.name) (row_shape fields)

abbrev pub is_named : List ℕ → List (List ℕ) → Bool
is_named name names = list_any (same_bytes name) names

abbrev pub names_row : List LineContent → List ℕ → Bool
names_row before name = is_named name (filter_map row_name (data_lines Rows before))

abbrev pub is_free_row_line : Fields → Bool
is_free_row_line fields = option_map_or (λ line. is_free (row_type line.letter)) (row_shape fields) false

abbrev pub has_default_objective : List LineContent → Bool
has_default_objective before = not (list_any is_free_row_line (data_lines Rows before)) && not (has_its_word before ObjName)

abbrev pub is_row : List LineContent → List ℕ → Bool
is_row before name = names_row before name || (has_default_objective before && same_bytes name (codes "obj"))

-- ---- DuplicateRow: a line of ROWS with the name of an earlier line of ROWS

-- or the header of COLUMNS, if the objective is `obj` and a line of ROWS has this name
abbrev pub repeats_row : List LineContent → LineContent → Bool
repeats_row before (header keyword more) = is_section Columns (section_named keyword) && (has_default_objective before && names_row before (codes "obj"))
repeats_row before (data_line fields) = is_section Rows (current_section before) && option_map_or (names_row before) (row_name fields) false
repeats_row before skipped = false

-- ---- UnknownRow: a line of COLUMNS, RHS or RANGES with an unknown row

-- a line of a column, not a marker line
abbrev pub column_line : Fields → Option ValuesLine
column_line fields = if is_marker_line fields then None else column_shape fields

abbrev pub pairs_in : Option Section → Fields → List Pair
pairs_in (Some Columns) fields = option_map_or (λ line. line.pairs) (column_line fields) []
pairs_in (Some Rhs) fields = option_map_or (λ line. line.pairs) (vector_shape fields) []
pairs_in (Some Ranges) fields = option_map_or (λ line. line.pairs) (vector_shape fields) []
pairs_in _ fields = []

-- or the header of COLUMNS, if no N row has the name that OBJNAME gives
abbrev pub names_unknown_row : List LineContent → LineContent → Bool
names_unknown_row before (header keyword more) = is_section Columns (section_named keyword) && not (has_named_objective before)
names_unknown_row before (data_line fields) = list_any (λ pair. not (is_row before pair.row)) (pairs_in (current_section before) fields)
names_unknown_row before skipped = false

-- ---- UnknownColumn: a line of BOUNDS with a column that is not in COLUMNS

abbrev pub bound_column : Fields → Option (List ℕ)
bound_column [] = None
bound_column (letters ∷ more) = option_map_or (λ type. option_map (λ line. line.column) (bound_shape type more)) (bound_type letters) None

abbrev pub names_column : List LineContent → List ℕ → Bool
names_column before name = list_any (same_column (Some name)) (map line_column (data_lines Columns before))

abbrev pub names_unknown_column : List LineContent → LineContent → Bool
names_unknown_column before (data_line fields) = is_section Bounds (current_section before) && option_map_or (λ name. not (names_column before name)) (bound_column fields) false
names_unknown_column before _ = false

-- ---- DuplicateEntry: a line of COLUMNS with a row twice, or with a row that an earlier line of the same column has

abbrev pub has_row_twice : List Pair → Bool
has_row_twice [] = false
has_row_twice (pair ∷ more) = list_any (λ other. same_bytes other.row pair.row) more || has_row_twice more

-- the line is of the column, and has the row
abbrev pub has_entry_of : (column row : List ℕ) → Fields → Bool
has_entry_of column row fields = option_map_or (λ line. same_bytes column line.name && list_any (λ pair. same_bytes row pair.row) line.pairs) (column_line fields) false

abbrev pub repeats_entry_of : List LineContent → ValuesLine → Bool
repeats_entry_of before line = has_row_twice line.pairs || list_any (λ pair. list_any (has_entry_of line.name pair.row) (data_lines Columns before)) line.pairs

abbrev pub repeats_entry : List LineContent → LineContent → Bool
repeats_entry before (data_line fields) = is_section Columns (current_section before) && option_map_or (repeats_entry_of before) (column_line fields) false
repeats_entry before _ = false

-- ---- the laws

-- The error is on a line of the text for which this holds, in terms of the lines before it.
pub record IsFaultOfLine (is_such : List LineContent → LineContent → Bool) (bytes : List ℕ) (fault : Fault) : Type 0 where
  pub before : List (List ℕ)
  pub line : List ℕ
  pub later : List (List ℕ)
  pub text : read_lines bytes ≡ before ++ line ∷ later
  pub number : fault.line ≡ min (length before + 1) (2 ^ 64 - 1)
  pub such : is_such (map content_of before) (content_of line) ≡ true

-- A first error of this kind is on such a line.
abbrev pub IsInWords : FaultKind → (List LineContent → LineContent → Bool) → Type 0
IsInWords kind is_such = (bytes : List ℕ) (fault : Fault) → IsFirstMpsFault bytes fault → fault.kind ≡ kind → IsFaultOfLine is_such bytes fault
