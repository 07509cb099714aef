-- MPS text defined as a whole: which headers there are, and what the lines of each section are together.
use Rattle.std.specs.Prelude.{ℕ, Bool, true, false, ◌&&◌, ◌||◌, not, List, [], ◌∷◌, map, filter_map, nat_le, Option, Some, None, is_some, is_ok, if◌then◌else◌}
use Rattle.std.specs.List.{list_any, list_all, flat_map}
use Rattle.std.specs.Option.{option_map_or}
use Rattle.mpslp_decimal.specs.Literal.{number_of}
use Rattle.mpslp_types.specs.Name.{same_bytes, is_mps_name}
use Rattle.mpslp_types.specs.declared.kinds.RowType.{RowType}
use Rattle.mpslp_types.specs.declared.kinds.RowType.TheVariants.{Free}
use Rattle.mpslp_types.specs.Lists.{are_distinct, is_nonempty, when}
use Rattle.mpslp_mps_fields.specs.Line.{Fields, LineContent, skipped, header, data_line, content_of, section_named, is_section}
use Rattle.mpslp_mps.specs.LegalLine.{is_legal_line}
use Rattle.mpslp_mps_fields.specs.DataLine.{Pair, sense_of, RowLine, row_shape, row_type, column_shape, is_marker_line, marker_shape, opening_word, closing_word, vector_shape, bound_type, bound_shape}
use Rattle.mpslp_mps.specs.Context.{seen_sections, said_after, data_lines, marker_word, line_column, vector_set, bound_set}
use Rattle.mpslp_mps.specs.SeenSection.{has_section}
use Rattle.mpslp_mps.specs.MpsText.{read_lines, has_end}
use Rattle.mpslp_mps_fields.specs.declared.sections.Section.{Section}
use Rattle.mpslp_mps_fields.specs.declared.sections.Section.TheVariants.{Name, ObjSense, ObjName, Rows, Columns, Rhs, Ranges, Bounds, EndData}

-- ---- headers: NAME, then OBJSENSE and OBJNAME, then ROWS, then COLUMNS, and then the others

abbrev pub section_rank : Section → ℕ
section_rank Name = 0
section_rank ObjSense = 1
section_rank ObjName = 1
section_rank Rows = 2
section_rank Columns = 3
section_rank Rhs = 4
section_rank Ranges = 4
section_rank Bounds = 4
section_rank EndData = 4

abbrev pub in_order : List Section → Bool
in_order [] = true
in_order (section ∷ later) = list_all (λ other. nat_le (section_rank section) (section_rank other)) later && in_order later

abbrev pub same_section : Section → Section → Bool
same_section a b = is_section a (Some b)

-- no section appears twice
abbrev pub are_good_sections : List Section → Bool
are_good_sections sections = in_order sections && are_distinct same_section sections

abbrev pub may_have_more : Section → Bool
may_have_more Name = true
may_have_more ObjSense = true
may_have_more ObjName = true
may_have_more _ = false

-- each header is that of a section; only those of NAME, OBJSENSE and OBJNAME may have more than their keyword
abbrev pub is_good_header : LineContent → Bool
is_good_header (header keyword more) = option_map_or (λ section. may_have_more section || not (is_nonempty more)) (section_named keyword) false
is_good_header _ = true

-- ROWS and COLUMNS are required
abbrev pub has_good_headers : List LineContent → Bool
has_good_headers items = list_all is_good_header items && (are_good_sections (seen_sections items) && (has_section items Rows && has_section items Columns))

-- ---- no data line comes before the first header or under NAME

abbrev pub takes_data : Section → Bool
takes_data Name = false
takes_data EndData = false
takes_data _ = true

abbrev pub strays : Option Section → LineContent → List Fields
strays current (data_line fields) = when (not (option_map_or takes_data current false)) fields
strays current _ = []

abbrev pub stray_lines : List LineContent → List Fields
stray_lines items = said_after strays None items

-- ---- OBJSENSE and OBJNAME: one word, on the header or on its one data line

-- the fields after the keyword, and those of each data line of the section
abbrev pub word_fields : Section → Option Section → LineContent → List Fields
word_fields section current (header keyword more) = when (is_section section (section_named keyword)) more
word_fields section current (data_line fields) = when (is_section section current) fields
word_fields section current skipped = []

abbrev pub words_in : Section → List LineContent → List Fields
words_in section items = said_after (word_fields section) None items

abbrev pub is_one_word : (List ℕ → Bool) → List Fields → Bool
is_one_word test ((word ∷ []) ∷ []) = test word
is_one_word test ([] ∷ (word ∷ []) ∷ []) = test word
is_one_word test _ = false

-- the section is missing, or has its word
abbrev pub has_word_at_most : (List ℕ → Bool) → List Fields → Bool
has_word_at_most test lines = not (is_nonempty lines) || is_one_word test lines

abbrev pub is_sense : List ℕ → Bool
is_sense word = is_some (sense_of word)

abbrev pub has_good_words : List LineContent → Bool
has_good_words items = has_word_at_most is_sense (words_in ObjSense items) && has_word_at_most (λ _. true) (words_in ObjName items)

-- ---- the word of OBJNAME is the name of an N row

abbrev pub is_free : Option RowType → Bool
is_free (Some Free) = true
is_free _ = false

abbrev pub is_free_row_named : List ℕ → Fields → Bool
is_free_row_named name fields = option_map_or (λ (line : RowLine). is_free (row_type line.letter) && same_bytes line.name name) (row_shape fields) false

abbrev pub has_free_row : List LineContent → List ℕ → Bool
has_free_row items name = list_any (is_free_row_named name) (data_lines Rows items)

abbrev pub has_named_objective : List LineContent → Bool
has_named_objective items = list_all (has_free_row items) (flat_map (λ fields. fields) (words_in ObjName items))

-- ---- the lines of each section

abbrev pub is_number : List ℕ → Bool
is_number literal = is_ok (number_of literal)

abbrev pub have_numbers : List Pair → Bool
have_numbers pairs = list_all (λ pair. is_number pair.literal) pairs

abbrev pub is_row_line : Fields → Bool
is_row_line fields = option_map_or (λ line. is_some (row_type line.letter) && is_mps_name line.name) (row_shape fields) false

abbrev pub is_columns_line : Fields → Bool
is_columns_line fields =
    if is_marker_line fields then is_some (marker_shape fields)
    else option_map_or (λ line. is_mps_name line.name && have_numbers line.pairs) (column_shape fields) false

abbrev pub is_vector_line : Fields → Bool
is_vector_line fields = option_map_or (λ line. have_numbers line.pairs) (vector_shape fields) false

-- a data line has at least one field, so the first case does not occur
abbrev pub is_bound_line : Fields → Bool
is_bound_line [] = true
is_bound_line (letters ∷ more) =
    option_map_or (λ type. option_map_or (λ line. option_map_or is_number line.literal true) (bound_shape type more) false) (bound_type letters) false

abbrev pub have_good_fields : List LineContent → Bool
have_good_fields items =
    list_all is_row_line (data_lines Rows items)
    && (list_all is_columns_line (data_lines Columns items)
    && (list_all is_vector_line (data_lines Rhs items)
    && (list_all is_vector_line (data_lines Ranges items) && list_all is_bound_line (data_lines Bounds items))))

-- ---- markers: the first opens an integer block, the second closes it, and so on

abbrev pub alternate : List ℕ → List ℕ → List (List ℕ) → Bool
alternate word other [] = true
alternate word other (first ∷ more) = same_bytes first word && alternate other word more

abbrev pub has_good_markers : List LineContent → Bool
has_good_markers items = alternate opening_word closing_word (filter_map marker_word (data_lines Columns items))

-- ---- all lines of a column are contiguous, without a marker line between them

-- a marker line has no column
abbrev pub same_column : Option (List ℕ) → Option (List ℕ) → Bool
same_column (Some a) (Some b) = same_bytes a b
same_column _ _ = false

-- the rest after the first lines, which are those of the column
abbrev pub entries_after : Option (List ℕ) → List (Option (List ℕ)) → List (Option (List ℕ))
entries_after column [] = []
entries_after column (next ∷ more) = if same_column column next then entries_after column more else next ∷ more

abbrev pub are_together : List (Option (List ℕ)) → Bool
are_together [] = true
are_together (column ∷ more) = not (list_any (same_column column) (entries_after column more)) && are_together more

abbrev pub has_whole_columns : List LineContent → Bool
has_whole_columns items = are_together (map line_column (data_lines Columns items))

-- ---- one set name for each section

abbrev pub is_one_set : List (List ℕ) → Bool
is_one_set [] = true
is_one_set (first ∷ more) = list_all (same_bytes first) more

abbrev pub has_single_sets : List LineContent → Bool
has_single_sets items =
    is_one_set (filter_map vector_set (data_lines Rhs items))
    && (is_one_set (filter_map vector_set (data_lines Ranges items)) && is_one_set (filter_map bound_set (data_lines Bounds items)))

-- ---- the text

abbrev pub are_good_together : List LineContent → Bool
are_good_together items =
    has_good_headers items
    && (not (is_nonempty (stray_lines items))
    && (has_good_words items
    && (has_named_objective items
    && (have_good_fields items && (has_good_markers items && (has_whole_columns items && has_single_sets items))))))

abbrev pub is_text_in_words : List ℕ → Bool
is_text_in_words bytes =
    has_end bytes && (list_all is_legal_line (read_lines bytes) && are_good_together (map content_of (read_lines bytes)))
