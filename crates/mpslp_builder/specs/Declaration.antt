-- What the parts of a file, or the calls of a builder, declare.
use Rattle.std.specs.Prelude.{ℕ, Bool, false, ◌||◌, if◌then◌else◌, List, [], ◌∷◌, ◌++◌, map, Option, Some, None, is_some}
use Rattle.mpslp_types.specs.Basics.{option_map_or, find_entry as find, put, Number, bytes_cmp, same_bytes}
pub use Rattle.mpslp_model_core.specs.Model.{key_cmp, CoefficientKey}
pub use Rattle.mpslp_model_core.specs.Limits.{RowDefinition, by_type, by_limits, is_free_definition, is_definition_by_limits, have_infinite_side}
use Rattle.mpslp_types.specs.declared.kinds.{Sense.Sense, Limit.Limit}

-- A right-hand side of the objective is its negated constant. `marked` applies to a column in an integer block of an MPS
-- file, `semi` to a semi-continuous column, which is 0 or within its bounds.
pub data Declaration : Type 0 where
  declare_sense : Sense → Declaration
  declare_objective : List ℕ → Declaration
  declare_constant : Number → Declaration
  declare_row : List ℕ → RowDefinition → Declaration
  declare_rhs : List ℕ → Number → Declaration
  declare_range : List ℕ → Number → Declaration
  declare_column : List ℕ → Declaration
  declare_coefficient : CoefficientKey → Number → Declaration
  declare_lower : List ℕ → Limit → Declaration
  declare_upper : List ℕ → Limit → Declaration
  declare_marked : List ℕ → Declaration
  declare_integer : List ℕ → Declaration
  declare_binary : List ℕ → Declaration
  declare_semi : List ℕ → Declaration

-- Repeated declarations are listed each time.
abbrev pub Declarations : Type 0
Declarations = List Declaration

-- What has been declared, in any order. Each map is the list of its entries in the order of their keys.
pub record Draft : Type 0 where
  pub sense : Option Sense
  pub objective : Option (List ℕ)
  pub constant : Option Number
  pub rows : List (List ℕ × RowDefinition)
  pub rhs_values : List (List ℕ × Number)
  pub ranges : List (List ℕ × Number)
  pub columns : List (List ℕ × Unit {0})
  pub coefficients : List (CoefficientKey × Number)
  pub lowers : List (List ℕ × Limit)
  pub uppers : List (List ℕ × Limit)
  pub marked : List (List ℕ × Unit {0})
  pub integers : List (List ℕ × Unit {0})
  pub binaries : List (List ℕ × Unit {0})
  pub semis : List (List ℕ × Unit {0})

abbrev pub empty_draft : Draft
empty_draft = record {
  sense = None;
  objective = None;
  constant = None;
  rows = [];
  rhs_values = [];
  ranges = [];
  columns = [];
  coefficients = [];
  lowers = [];
  uppers = [];
  marked = [];
  integers = [];
  binaries = [];
  semis = [];
}

-- the draft with one more declaration. Of two with the same key the later one replaces the earlier, but then they are not
-- consistent
abbrev pub with_declaration : Draft → Declaration → Draft
with_declaration all (declare_sense sense) = record all { sense = Some sense }
with_declaration all (declare_objective name) = record all { objective = Some name }
with_declaration all (declare_constant value) = record all { constant = Some value }
with_declaration all (declare_row name definition) = record all { rows = put bytes_cmp name definition all.rows }
with_declaration all (declare_rhs row value) = record all { rhs_values = put bytes_cmp row value all.rhs_values }
with_declaration all (declare_range row value) = record all { ranges = put bytes_cmp row value all.ranges }
with_declaration all (declare_column name) = record all { columns = put bytes_cmp name tt all.columns }
with_declaration all (declare_coefficient key value) = record all { coefficients = put key_cmp key value all.coefficients }
with_declaration all (declare_lower column limit) = record all { lowers = put bytes_cmp column limit all.lowers }
with_declaration all (declare_upper column limit) = record all { uppers = put bytes_cmp column limit all.uppers }
with_declaration all (declare_marked column) = record all { marked = put bytes_cmp column tt all.marked }
with_declaration all (declare_integer column) = record all { integers = put bytes_cmp column tt all.integers }
with_declaration all (declare_binary column) = record all { binaries = put bytes_cmp column tt all.binaries }
with_declaration all (declare_semi column) = record all { semis = put bytes_cmp column tt all.semis }

abbrev pub with_declarations : Draft → Declarations → Draft
with_declarations all [] = all
with_declarations all (declaration ∷ more) = with_declarations (with_declaration all declaration) more

abbrev pub draft_of : Declarations → Draft
draft_of declarations = with_declarations empty_draft declarations

-- ---- what is declared for a name

abbrev pub at_name : {X : Type 0} → List (List ℕ × X) → List ℕ → Option X
at_name entries name = find bytes_cmp name entries

abbrev pub has_name : {X : Type 0} → List (List ℕ × X) → List ℕ → Bool
has_name entries name = is_some (at_name entries name)

abbrev pub names_in : {X : Type 0} → List (List ℕ × X) → List (List ℕ)
names_in entries = map (λ entry. entry.0) entries

abbrev pub is_objective : Draft → List ℕ → Bool
is_objective all name = option_map_or (same_bytes name) all.objective false

-- whether a row, or the objective, has this name
abbrev pub has_row : Draft → List ℕ → Bool
has_row all name = is_objective all name || has_name all.rows name

abbrev pub has_column : Draft → List ℕ → Bool
has_column all name = has_name all.columns name

-- whether this coefficient is declared, even as 0
abbrev pub has_coefficient : Draft → CoefficientKey → Bool
has_coefficient all key = is_some (find key_cmp key all.coefficients)

abbrev pub is_integer : Draft → List ℕ → Bool
is_integer all name = has_name all.marked name || (has_name all.integers name || has_name all.binaries name)

abbrev pub is_semi : Draft → List ℕ → Bool
is_semi all name = has_name all.semis name

abbrev pub is_free_row : Draft → List ℕ → Bool
is_free_row all name = option_map_or is_free_definition (at_name all.rows name) false

abbrev pub is_row_by_limits : Draft → List ℕ → Bool
is_row_by_limits all name = option_map_or is_definition_by_limits (at_name all.rows name) false

-- ---- declarations that depend on the case

-- a right-hand side; on a row of type N it declares nothing and may be repeated
abbrev pub rhs_declared : Draft → List ℕ → Number → Declarations
rhs_declared all row value = if is_free_row all row then [] else declare_rhs row value ∷ []

-- the given bounds of a column: both, one or none
abbrev pub bounds_declared : List ℕ → Option Limit → Option Limit → Declarations
bounds_declared column lower upper =
    option_map_or (λ side. declare_lower column side ∷ []) lower [] ++ option_map_or (λ side. declare_upper column side ∷ []) upper []
