-- What each printed line declares, in any context and draft in which its section is current and nothing forbids the line.
use Rattle.std.specs.Prelude.{◌≡◌, ℕ, Bool, true, false, List, [], ◌∷◌, ◌++◌, Option, Some, None, is_some, is_none, codes}
use Rattle.std.specs.Option.{option_map_or}
use Rattle.mpslp_decimal.specs.Decimal.{Number, IsDecimal}
use Rattle.mpslp_types.specs.Limit.{limit_of}
use Rattle.mpslp_types.specs.Name.{IsMpsName, same_bytes, marker}
use Rattle.mpslp_types.specs.declared.kinds.Limit.TheVariants.{MinusInf, Finite, PlusInf}
use Rattle.mpslp_types.specs.declared.kinds.Sense.TheVariants.{Maximize}
use Rattle.mpslp_types.specs.Lists.{those_of, when}
use Rattle.mpslp_model_core.specs.Model.{Row}
use Rattle.mpslp_builder.specs.Declaration.{by_type, declare_sense, declare_objective, declare_row, declare_rhs, declare_range, declare_column, declare_coefficient, declare_marked, declare_lower, declare_upper, declare_semi, Declarations, Draft, is_free_row}
use Rattle.mpslp_mps_fields.specs.DataLine.{opening_word, closing_word}
use Rattle.mpslp_mps_fields.specs.Line.{has, is_section, LineContent, header, data_line}
use Rattle.mpslp_mps.specs.Context.{Context}
use Rattle.mpslp_mps.specs.NextContext.{next_context}
use Rattle.mpslp_mps.specs.LineDeclarations.{line_declares}
use Rattle.mpslp_mps.specs.LineFault.{item_tests, is_out_of_order, is_split}
use Rattle.mpslp_mps_fields.specs.declared.bound_types.BoundType.TheVariants as bounds
use Rattle.mpslp_mps_fields.specs.declared.sections.Section.{Section}
use Rattle.mpslp_mps_fields.specs.declared.sections.Section.TheVariants.{ObjSense, Rows, Columns, Rhs, Ranges, Bounds}
use Rattle.mpslp_mps_text.specs.CanonicalMps.{PrintedLine, heading, short_line, long_line, header_line, maximize_line, objective_line, row_line, coefficient_line, marker_line, rhs_line, range_line, bound_line}
use Rattle.mpslp_mps_text.specs.PrintedValues.{printed_type, bound_without_value, bound_with_value}

-- ---- what a reader of MPS sees in a printed line

-- the content of a printed line
abbrev pub content_in : PrintedLine → LineContent
content_in (heading keyword) = header keyword []
content_in (short_line fields) = data_line fields
content_in (long_line fields) = data_line fields

-- The line declares these, and its form has no error.
pub record IsDerived (context : Context) (earlier : Draft) (line : PrintedLine) (declarations : Declarations) : Type 0 where
  pub declares : line_declares context earlier (content_in line) ≡ declarations
  pub faultless : those_of (item_tests context earlier (content_in line)) ≡ []

-- ---- headers: they declare nothing

-- the header of COLUMNS comes after the objective
abbrev pub DeriveHeaders : Type 0
DeriveHeaders =
    (context : Context) (earlier : Draft) (section : Section) → is_out_of_order context section ≡ false → has context.sections_seen section ≡ false
    → (is_section Columns (Some section) ≡ true → is_none earlier.objective ≡ false) → IsDerived context earlier (header_line section) []

-- ---- OBJSENSE: the objective is maximized

abbrev pub DeriveSense : Type 0
DeriveSense =
    (context : Context) (earlier : Draft) → context.section ≡ Some ObjSense → is_some context.word_due ≡ true
    → IsDerived context earlier maximize_line (declare_sense Maximize ∷ [])

-- ---- ROWS

-- the objective, if none is declared and OBJNAME names none; and then each row with its type
pub record DeriveRows (context : Context) (earlier : Draft) : Type 0 where
  pub objective : (name : List ℕ) → IsMpsName name → is_none earlier.objective ≡ true → context.objname ≡ None → IsDerived context earlier (objective_line name) (declare_objective name ∷ [])
  pub row : (row : List ℕ × Row) → IsMpsName row.0 → is_none earlier.objective ≡ false
      → IsDerived context earlier (row_line row) (declare_row row.0 (by_type (printed_type row.1.lower row.1.upper)) ∷ [])

-- ---- COLUMNS

-- The lines of a column are not split. Inside an integer block the column is also marked. The two marker lines, which
-- declare nothing, open and close the block.
pub record DeriveColumns (context : Context) (earlier : Draft) : Type 0 where
  pub coefficient : (column row : List ℕ) (value : Number) → IsMpsName column → same_bytes row marker ≡ false → IsDecimal value → is_split context earlier column ≡ false
      → IsDerived context earlier (coefficient_line column (row, value))
      (declare_column column ∷ (when context.in_integer_part (declare_marked column) ++ declare_coefficient (record { row = row; column = column }) value ∷ []))
  pub opening : context.in_integer_part ≡ false → IsDerived context earlier (marker_line opening_word) []
  pub opens : (next_context context (content_in (marker_line opening_word))).in_integer_part ≡ true
  pub closing : context.in_integer_part ≡ true → IsDerived context earlier (marker_line closing_word) []
  pub closes : (next_context context (content_in (marker_line closing_word))).in_integer_part ≡ false

-- ---- RHS, RANGES and BOUNDS: if no earlier line of the section has another set name

abbrev pub is_set_of : Option (List ℕ) → List ℕ → Bool
is_set_of first set = option_map_or (λ name. same_bytes name set) first true

-- the right-hand side of a row that is not of type N; that of the objective is the negative of its constant
abbrev pub DeriveRhs : Type 0
DeriveRhs =
    (context : Context) (earlier : Draft) (row : List ℕ) (value : Number) → context.section ≡ Some Rhs → is_set_of context.rhs_set (codes "RHS") ≡ true
    → is_free_row earlier row ≡ false → IsDecimal value → IsDerived context earlier (rhs_line row value) (declare_rhs row value ∷ [])

abbrev pub DeriveRanges : Type 0
DeriveRanges =
    (context : Context) (earlier : Draft) (row : List ℕ) (value : Number) → context.section ≡ Some Ranges → is_set_of context.ranges_set (codes "RNG") ≡ true
    → IsDecimal value → IsDerived context earlier (range_line row value) (declare_range row value ∷ [])

-- a value with magnitude below 1e20
pub record IsFiniteValue (value : Number) : Type 0 where
  pub decimal : IsDecimal value
  pub finite : limit_of value ≡ Finite value

-- each type of bound that is printed, of a column
pub record DeriveBounds (context : Context) (earlier : Draft) (column : List ℕ) : Type 0 where
  pub lower : (value : Number) → IsFiniteValue value → IsDerived context earlier (bound_line column (bound_with_value bounds.Lower value)) (declare_lower column (Finite value) ∷ [])
  pub upper : (value : Number) → IsFiniteValue value → IsDerived context earlier (bound_line column (bound_with_value bounds.Upper value)) (declare_upper column (Finite value) ∷ [])
  pub fixed : (value : Number) → IsFiniteValue value
      → IsDerived context earlier (bound_line column (bound_with_value bounds.Fixed value)) (declare_lower column (Finite value) ∷ declare_upper column (Finite value) ∷ [])
  pub semi_upper : (value : Number) → IsFiniteValue value
      → IsDerived context earlier (bound_line column (bound_with_value bounds.SemiUpper value)) (declare_semi column ∷ declare_upper column (Finite value) ∷ [])
  pub free : IsDerived context earlier (bound_line column (bound_without_value bounds.Free)) (declare_lower column MinusInf ∷ declare_upper column PlusInf ∷ [])
  pub no_lower : IsDerived context earlier (bound_line column (bound_without_value bounds.NoLower)) (declare_lower column MinusInf ∷ [])
  pub no_upper : IsDerived context earlier (bound_line column (bound_without_value bounds.NoUpper)) (declare_upper column PlusInf ∷ [])

-- ---- the lines of each section, wherever they are in it

abbrev pub DeriveAllRows : Type 0
DeriveAllRows = (context : Context) (earlier : Draft) → context.section ≡ Some Rows → DeriveRows context earlier

abbrev pub DeriveAllColumns : Type 0
DeriveAllColumns = (context : Context) (earlier : Draft) → context.section ≡ Some Columns → DeriveColumns context earlier

abbrev pub DeriveAllBounds : Type 0
DeriveAllBounds =
    (context : Context) (earlier : Draft) (column : List ℕ) → context.section ≡ Some Bounds → is_set_of context.bounds_set (codes "BND") ≡ true → DeriveBounds context earlier column
