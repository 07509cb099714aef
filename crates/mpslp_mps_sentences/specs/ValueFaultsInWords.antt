-- Errors of lines of RHS, RANGES and BOUNDS that depend on other lines, each defined by the line and all lines before it.
use Rattle.std.specs.Prelude.{ℕ, Bool, true, false, ◌&&◌, ◌||◌, not, List, [], ◌∷◌, ◌++◌, filter, filter_map, Option, Some, None, is_some, if◌then◌else◌, codes}
use Rattle.std.specs.List.{list_any, flat_map}
use Rattle.std.specs.Option.{option_map_or}
use Rattle.mpslp_types.specs.Name.{same_bytes}
use Rattle.mpslp_types.specs.Lists.{head_of}
use Rattle.mpslp_mps_fields.specs.Line.{Fields, LineContent, data_line, is_section}
use Rattle.mpslp_mps_fields.specs.DataLine.{Pair, opening_word, vector_shape, bound_type, bound_shape, is_integer_type, is_semi_type}
use Rattle.mpslp_mps.specs.Context.{current_section, data_lines, marker_word, line_column}
use Rattle.mpslp_mps_sentences.specs.TextInWords.{words_in, has_free_row, same_column}
use Rattle.mpslp_mps_sentences.specs.FaultsInWords.{row_name, is_free_row_line, has_row_twice}
use Rattle.mpslp_mps_fields.specs.declared.bound_types.BoundType.{BoundType}
use Rattle.mpslp_mps_fields.specs.declared.bound_types.BoundType.TheVariants as bounds
use Rattle.mpslp_mps_fields.specs.declared.sections.Section.{Section}
use Rattle.mpslp_mps_fields.specs.declared.sections.Section.TheVariants.{ObjName, Rows, Columns, Rhs, Ranges, Bounds}

-- a data line of the section whose fields pass the test
abbrev pub is_line_of : Section → (Fields → Bool) → List LineContent → LineContent → Bool
is_line_of section test before (data_line fields) = is_section section (current_section before) && test fields
is_line_of section test before _ = false

-- ---- the objective: the row that OBJNAME names, or else the first N row, or else `obj`

abbrev pub free_row_name : Fields → Option (List ℕ)
free_row_name fields = if is_free_row_line fields then row_name fields else None

abbrev pub objective_names : List LineContent → List (List ℕ)
objective_names before = flat_map (λ fields. fields) (words_in ObjName before) ++ (filter_map free_row_name (data_lines Rows before) ++ codes "obj" ∷ [])

abbrev pub names_objective : List LineContent → List ℕ → Bool
names_objective before name = option_map_or (same_bytes name) (head_of (objective_names before)) false

-- ---- RangeOnFree: a line of RANGES with the objective or another N row

abbrev pub is_without_limits : List LineContent → List ℕ → Bool
is_without_limits before name = has_free_row before name || names_objective before name

abbrev pub vector_pairs : Fields → List Pair
vector_pairs fields = option_map_or (λ line. line.pairs) (vector_shape fields) []

abbrev pub ranges_free_row : List LineContent → LineContent → Bool
ranges_free_row before item = is_line_of Ranges (λ fields. list_any (λ pair. is_without_limits before pair.row) (vector_pairs fields)) before item

-- ---- DuplicateRange: a line of RANGES with a row twice, or with a row that an earlier line of RANGES has

-- the line has the row
abbrev pub has_value_of : List ℕ → Fields → Bool
has_value_of row fields = list_any (λ pair. same_bytes row pair.row) (vector_pairs fields)

abbrev pub repeats_row_of : List Fields → List Pair → Bool
repeats_row_of lines pairs = has_row_twice pairs || list_any (λ pair. list_any (has_value_of pair.row) lines) pairs

abbrev pub repeats_range : List LineContent → LineContent → Bool
repeats_range before item = is_line_of Ranges (λ fields. repeats_row_of (data_lines Ranges before) (vector_pairs fields)) before item

-- ---- DuplicateRhs: a line of RHS with a row twice, or with a row that an earlier line of RHS has

-- N rows other than the objective do not count: their right-hand sides mean nothing and may be repeated
abbrev pub takes_side : List LineContent → List ℕ → Bool
takes_side before row = not (has_free_row before row) || names_objective before row

abbrev pub repeats_side : List LineContent → LineContent → Bool
repeats_side before item = is_line_of Rhs (λ fields. repeats_row_of (data_lines Rhs before) (filter (λ pair. takes_side before pair.row) (vector_pairs fields))) before item

-- ---- DuplicateBound: a line of BOUNDS with a lower or an upper bound of a column that has one from an earlier line

abbrev pub gives_lower : BoundType → Bool
gives_lower bounds.Lower = true
gives_lower bounds.Fixed = true
gives_lower bounds.Free = true
gives_lower bounds.NoLower = true
gives_lower bounds.Binary = true
gives_lower bounds.IntegerLower = true
gives_lower _ = false

abbrev pub gives_upper : BoundType → Bool
gives_upper bounds.Upper = true
gives_upper bounds.Fixed = true
gives_upper bounds.Free = true
gives_upper bounds.NoUpper = true
gives_upper bounds.Binary = true
gives_upper bounds.IntegerUpper = true
gives_upper bounds.SemiUpper = true
gives_upper _ = false

-- the test holds for the type and the column of a line of BOUNDS
abbrev pub is_such_bound : (BoundType → List ℕ → Bool) → Fields → Bool
is_such_bound test [] = false
is_such_bound test (letters ∷ more) = option_map_or (λ type. option_map_or (λ line. test type line.column) (bound_shape type more) false) (bound_type letters) false

-- a line of BOUNDS has the column, with a type of this kind
abbrev pub has_bound : List LineContent → (BoundType → Bool) → List ℕ → Bool
has_bound before is_of column = list_any (is_such_bound (λ type name. is_of type && same_bytes column name)) (data_lines Bounds before)

abbrev pub repeats_bound_of : List LineContent → BoundType → List ℕ → Bool
repeats_bound_of before type column = (gives_lower type && has_bound before gives_lower column) || (gives_upper type && has_bound before gives_upper column)

abbrev pub repeats_bound : List LineContent → LineContent → Bool
repeats_bound before item = is_line_of Bounds (is_such_bound (repeats_bound_of before)) before item

-- ---- SemiContinuous: a line SC of an integer column, or a line BV, LI or UI of a column with a line SC

abbrev pub opens_block : Fields → Bool
opens_block fields = option_map_or (same_bytes opening_word) (marker_word fields) false

-- the lines up to the next marker line
abbrev pub block_lines : List Fields → List Fields
block_lines [] = []
block_lines (fields ∷ more) = if is_some (marker_word fields) then [] else fields ∷ block_lines more

-- of lines of COLUMNS, one in an integer block has the column
abbrev pub is_in_block : List ℕ → List Fields → Bool
is_in_block column [] = false
is_in_block column (fields ∷ more) = (opens_block fields && list_any (λ line. same_column (Some column) (line_column line)) (block_lines more)) || is_in_block column more

abbrev pub is_integer_column : List LineContent → List ℕ → Bool
is_integer_column before column = is_in_block column (data_lines Columns before) || has_bound before is_integer_type column

abbrev pub clashes_with : List LineContent → BoundType → List ℕ → Bool
clashes_with before type column = (is_semi_type type && is_integer_column before column) || (is_integer_type type && has_bound before is_semi_type column)

abbrev pub makes_both_kinds : List LineContent → LineContent → Bool
makes_both_kinds before item = is_line_of Bounds (is_such_bound (clashes_with before)) before item
