-- What the lines before a line mean for it: each part is defined directly by the list of these lines.
use Rattle.std.specs.Prelude.{ℕ, Bool, true, false, if◌then◌else◌, List, [], ◌∷◌, ◌++◌, filter, filter_map, Option, None}
use Rattle.mpslp_types.specs.Basics.{last_or, cons_option, option_map_or, option_map, option_or, head_of, when, same_bytes}
use Rattle.mpslp_mps_fields.specs.Line.{Fields, LineContent, skipped, header, data_line, section_named, section_of_header, is_section, section_of_word_due}
use Rattle.mpslp_mps_fields.specs.DataLine.{word_shape, column_shape, is_marker_line, marker_shape, opening_word, vector_shape, bound_type, bound_shape}
use Rattle.mpslp_mps_fields.specs.declared.sections.Section.{Section, TheVariants.ObjName, TheVariants.Columns, TheVariants.Rhs, TheVariants.Ranges, TheVariants.Bounds}

-- ---- sections

-- the sections that have begun, in their order
abbrev pub seen_sections : List LineContent → List Section
seen_sections before = filter_map section_of_header before

-- the section after some lines that begin in `current`: that of the last header
abbrev pub section_after : Option Section → List LineContent → Option Section
section_after current items = last_or current (seen_sections items)

-- the section of a line after these
abbrev pub current_section : List LineContent → Option Section
current_section before = section_after None before

-- ---- the data lines of a section

-- the fields of a data line in the section
abbrev pub fields_under : Section → Option Section → LineContent → List Fields
fields_under section current (data_line fields) = when (is_section section current) fields
fields_under section current _ = []

-- what lines give where they are, if they begin in `current`
abbrev pub said_after : {X : Type 0} → (Option Section → LineContent → List X) → Option Section → List LineContent → List X
said_after says current [] = []
said_after says current (item ∷ items) = says current item ++ said_after says (option_or (section_of_header item) current) items

abbrev pub data_lines_after : Section → Option Section → List LineContent → List Fields
data_lines_after section current items = said_after (fields_under section) current items

abbrev pub data_lines : Section → List LineContent → List Fields
data_lines section before = data_lines_after section None before

-- ---- what the lines of a section mean for a later one

abbrev pub is_read : LineContent → Bool
is_read skipped = false
is_read _ = true

abbrev pub word_due_after : LineContent → Option Section
word_due_after (header keyword more) = option_map_or (λ section. section_of_word_due section more) (section_named keyword) None
word_due_after _ = None

-- the section whose word must come next: the last line that is not skipped is its bare header
abbrev pub word_due : List LineContent → Option Section
word_due before = option_map_or word_due_after (last_or None (filter is_read before)) None

-- the word of OBJNAME in a line, if the lines before it end in `current`
abbrev pub objname_word : Option Section → LineContent → Option (List ℕ)
objname_word current (header keyword more) = if is_section ObjName (section_named keyword) then word_shape more else None
objname_word current (data_line fields) = if is_section ObjName current then word_shape fields else None
objname_word current skipped = None

-- the name of the objective, if OBJNAME gives one
abbrev pub objname : List LineContent → Option (List ℕ)
objname before = head_of (said_after (λ current item. cons_option (objname_word current item) []) None before)

-- the word of a line of COLUMNS if it is a marker line, otherwise its column
abbrev pub marker_word : Fields → Option (List ℕ)
marker_word fields = if is_marker_line fields then marker_shape fields else None

abbrev pub line_column : Fields → Option (List ℕ)
line_column fields = if is_marker_line fields then None else option_map (λ line. line.name) (column_shape fields)

-- the last marker line before opens an integer block
abbrev pub in_integer_part : List LineContent → Bool
in_integer_part before = option_map_or (same_bytes opening_word) (last_or None (filter_map marker_word (data_lines Columns before))) false

-- the column of the last line of COLUMNS; none if that is a marker line
abbrev pub last_column : List LineContent → Option (List ℕ)
last_column before = option_map_or line_column (last_or None (data_lines Columns before)) None

-- the set name of a line
abbrev pub vector_set : Fields → Option (List ℕ)
vector_set fields = option_map (λ line. line.name) (vector_shape fields)

abbrev pub bound_set : Fields → Option (List ℕ)
bound_set [] = None
bound_set (letters ∷ more) = option_map_or (λ type. option_map (λ line. line.set) (bound_shape type more)) (bound_type letters) None

-- the set name of the first line of a section
abbrev pub first_set : (Fields → Option (List ℕ)) → List Fields → Option (List ℕ)
first_set set_of lines = head_of (filter_map set_of lines)

-- ---- the whole context

pub record Context : Type 0 where
  pub section : Option Section
  pub sections_seen : List Section
  pub word_due : Option Section
  pub objname : Option (List ℕ)
  pub in_integer_part : Bool
  pub last_column : Option (List ℕ)
  pub rhs_set : Option (List ℕ)
  pub ranges_set : Option (List ℕ)
  pub bounds_set : Option (List ℕ)

abbrev pub context_of : List LineContent → Context
context_of before = record {
  section = current_section before;
  sections_seen = seen_sections before;
  word_due = word_due before;
  objname = objname before;
  in_integer_part = in_integer_part before;
  last_column = last_column before;
  rhs_set = first_set vector_set (data_lines Rhs before);
  ranges_set = first_set vector_set (data_lines Ranges before);
  bounds_set = first_set bound_set (data_lines Bounds before);
}
