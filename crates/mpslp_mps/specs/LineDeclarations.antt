-- What each line of MPS text declares. A line of a wrong shape declares nothing.
use Rattle.std.specs.Prelude.{ℕ, Bool, true, ◌&&◌, if◌then◌else◌, List, [], ◌∷◌, ◌++◌, map, codes, Option, Some, None, is_none}
use Rattle.mpslp_types.specs.Basics.{flat_map, option_map_or, when, same_bytes, limit_of, zero_limit}
use Rattle.mpslp_builder.specs.Declaration.{by_type, declare_sense, declare_objective, declare_row, declare_range, declare_column, declare_coefficient, declare_marked, declare_integer, declare_semi, Declarations, Draft, rhs_declared, bounds_declared}
use Rattle.mpslp_model_core.specs.Limits.{one_limit}
use Rattle.mpslp_types.specs.declared.kinds.{RowType.RowType, RowType.TheVariants.Free, Limit.Limit, Limit.TheVariants.MinusInf, Limit.TheVariants.PlusInf}
use Rattle.mpslp_lines.specs.FaultTests.{value_of}
use Rattle.mpslp_mps_fields.specs.Line.{Fields, LineContent, skipped, header, data_line, section_named}
use Rattle.mpslp_mps_fields.specs.DataLine.{RowLine, Pair, ValuesLine, word_shape, sense_of, row_shape, row_type, column_shape, is_marker_line, vector_shape, BoundLine, bound_type, bound_shape, is_integer_type, is_semi_type}
use Rattle.mpslp_mps.specs.Context.{Context}
use Rattle.mpslp_mps_fields.specs.declared.{sections.Section.Section, sections.Section.TheVariants.ObjSense, sections.Section.TheVariants.Rows, sections.Section.TheVariants.Columns, sections.Section.TheVariants.Rhs, sections.Section.TheVariants.Ranges, sections.Section.TheVariants.Bounds, bound_types.BoundType.BoundType}
use Rattle.mpslp_mps_fields.specs.declared.bound_types.BoundType.TheVariants as bounds

-- what an optional value declares, if it is present
abbrev pub declared_if_some : {X : Type 0} → (X → Declarations) → Option X → Declarations
declared_if_some declares found = option_map_or declares found []

-- ---- OBJSENSE

abbrev pub sense_declared : List ℕ → Declarations
sense_declared word = declared_if_some (λ sense. declare_sense sense ∷ []) (sense_of word)

-- ---- ROWS

-- the first N row is the objective; if OBJNAME gives a name, the first N row of that name
abbrev pub is_new_objective : Context → Draft → List ℕ → Bool
is_new_objective context earlier name = is_none earlier.objective && option_map_or (same_bytes name) context.objname true

-- each other N row is a row without limits
abbrev pub row_of_type : Context → Draft → List ℕ → RowType → Declarations
row_of_type context earlier name Free = if is_new_objective context earlier name then declare_objective name ∷ [] else declare_row name (by_type Free) ∷ []
row_of_type context earlier name type = declare_row name (by_type type) ∷ []

abbrev pub row_declared : Context → Draft → RowLine → Declarations
row_declared context earlier line = declared_if_some (row_of_type context earlier line.name) (row_type line.letter)

-- if no N row was declared, and OBJNAME has named none, the objective is `obj`
abbrev pub default_objective : Context → Draft → Declarations
default_objective context earlier = if is_none earlier.objective && is_none context.objname then declare_objective (codes "obj") ∷ [] else []

-- ---- COLUMNS

abbrev pub coefficient_declared : List ℕ → Pair → Declarations
coefficient_declared column pair = declare_coefficient (record { row = pair.row; column = column }) (value_of pair.literal) ∷ []

-- a column with lines in an integer block is marked
abbrev pub column_declared : Context → ValuesLine → Declarations
column_declared context line =
    declare_column line.name
    ∷ (when context.in_integer_part (declare_marked line.name) ++ flat_map (coefficient_declared line.name) line.pairs)

-- a marker line declares nothing
abbrev pub columns_line_declared : Context → Fields → Declarations
columns_line_declared context fields = if is_marker_line fields then [] else declared_if_some (column_declared context) (column_shape fields)

-- ---- RHS and RANGES

-- for the objective, the negative of its constant; for another N row, nothing
abbrev pub rhs_line_declared : Draft → ValuesLine → Declarations
rhs_line_declared earlier line = flat_map (λ pair. rhs_declared earlier pair.row (value_of pair.literal)) line.pairs

abbrev pub ranges_declared : ValuesLine → Declarations
ranges_declared line = map (λ pair. declare_range pair.row (value_of pair.literal)) line.pairs

-- ---- BOUNDS

-- the lower and the upper bound that a line of this type declares, with its value if the type takes one
abbrev pub lower_given : BoundType → Limit → Option Limit
lower_given bounds.Lower value = Some value
lower_given bounds.Upper value = None
lower_given bounds.Fixed value = Some value
lower_given bounds.Free value = Some MinusInf
lower_given bounds.NoLower value = Some MinusInf
lower_given bounds.NoUpper value = None
lower_given bounds.Binary value = Some zero_limit
lower_given bounds.IntegerLower value = Some value
lower_given bounds.IntegerUpper value = None
lower_given bounds.SemiUpper value = None

abbrev pub upper_given : BoundType → Limit → Option Limit
upper_given bounds.Lower value = None
upper_given bounds.Upper value = Some value
upper_given bounds.Fixed value = Some value
upper_given bounds.Free value = Some PlusInf
upper_given bounds.NoLower value = None
upper_given bounds.NoUpper value = Some PlusInf
upper_given bounds.Binary value = Some one_limit
upper_given bounds.IntegerLower value = None
upper_given bounds.IntegerUpper value = Some value
upper_given bounds.SemiUpper value = Some value

abbrev pub kind_declared : BoundType → List ℕ → Declarations
kind_declared type column = when (is_integer_type type) (declare_integer column) ++ when (is_semi_type type) (declare_semi column)

-- what a bound of this type declares of a column: that it is integer or semi-continuous, then its bounds
abbrev pub bound_declared : BoundType → List ℕ → Limit → Declarations
bound_declared type column value = kind_declared type column ++ bounds_declared column (lower_given type value) (upper_given type value)

-- a value with magnitude 1e20 or more is infinite
abbrev pub bound_value : BoundLine → Limit
bound_value line = option_map_or (λ literal. limit_of (value_of literal)) line.literal zero_limit

abbrev pub bound_line_declared : Fields → Declarations
bound_line_declared [] = []
bound_line_declared (letters ∷ more) =
    declared_if_some (λ type. declared_if_some (λ line. bound_declared type line.column (bound_value line)) (bound_shape type more)) (bound_type letters)

-- ---- a line

abbrev pub data_declared : Context → Draft → Fields → Option Section → Declarations
data_declared context earlier fields (Some ObjSense) = declared_if_some sense_declared (word_shape fields)
data_declared context earlier fields (Some Rows) = declared_if_some (row_declared context earlier) (row_shape fields)
data_declared context earlier fields (Some Columns) = columns_line_declared context fields
data_declared context earlier fields (Some Rhs) = declared_if_some (rhs_line_declared earlier) (vector_shape fields)
data_declared context earlier fields (Some Ranges) = declared_if_some ranges_declared (vector_shape fields)
data_declared context earlier fields (Some Bounds) = bound_line_declared fields
data_declared context earlier fields _ = []

-- the rest of a header line is the sense under OBJSENSE, and declares nothing elsewhere
abbrev pub header_declared : Context → Draft → Fields → Option Section → Declarations
header_declared context earlier more (Some ObjSense) = declared_if_some sense_declared (word_shape more)
header_declared context earlier more (Some Columns) = default_objective context earlier
header_declared context earlier more _ = []

-- what a line declares in this context, after the draft `earlier`
abbrev pub line_declares : Context → Draft → LineContent → Declarations
line_declares context earlier skipped = []
line_declares context earlier (header keyword more) = header_declared context earlier more (section_named keyword)
line_declares context earlier (data_line fields) = data_declared context earlier fields context.section
