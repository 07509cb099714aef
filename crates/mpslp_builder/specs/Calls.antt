-- What tables state by number, and what each call changes in them.
use Rattle.std.specs.Prelude.{◌≡◌, ◌<◌, ℕ, zero, suc, Bool, true, false, ◌&&◌, ◌||◌, List, [], ◌∷◌, ◌++◌, Option, None, Some, is_some, length, slice_get, Result, Ok, Err}
use Rattle.std.specs.Option.{option_map, option_map_or}
use Rattle.std.specs.Ordering.{nat_cmp}
use Rattle.std.specs.FinMap.{find}
use Rattle.std.specs.declared.alloc.AllocError.{AllocError}
use Rattle.indexmap.specs.IndexMap.{set_value_at}
use Rattle.mpslp_decimal.specs.Decimal.{Number}
use Rattle.mpslp_types.specs.declared.faults.BuildFault.{BuildFault}
use Rattle.mpslp_model_core.specs.Numbered.{IsOnce, each_part}
use Rattle.mpslp_model_core.specs.Model.{CoefficientKey}
use Rattle.mpslp_model_core.specs.Limits.{is_definition_by_limits}
pub use Rattle.mpslp_builder_parts.specs.Parts.{new_column, with_bounds, with_cell, with_property}
use Rattle.mpslp_builder_parts.specs.Parts.{ColumnParts}
use Rattle.mpslp_types.specs.Lists.{those_of}
use Rattle.mpslp_builder.specs.Answer.{Answer, Answers}
use Rattle.mpslp_builder.specs.Refusal.{row_tests}
use Rattle.mpslp_builder.specs.Declaration.{Declaration, declare_marked, declare_integer, declare_binary, declare_semi, Draft, has_row, has_column, has_coefficient}
use Rattle.mpslp_builder.specs.Tables.{definition_of, cells_of, draft, name_of_row_key, cells_by_name}
use Rattle.mpslp_builder_parts.specs.declared.parts.ObjectiveParts.{ObjectiveParts}
use Rattle.mpslp_builder_parts.specs.declared.parts.Property.{Property}
use Rattle.mpslp_builder_parts.specs.declared.parts.Property.TheVariants.{Marked, Integer, Binary, Semi}
use Rattle.mpslp_builder_parts.specs.RowParts.{RowParts}
use Rattle.mpslp_builder.specs.declared.tables.RowRef.{RowRef}
use Rattle.mpslp_builder.specs.declared.tables.RowRef.TheVariants.{Objective, Row}
use Rattle.mpslp_builder.specs.declared.tables.Tables.{Tables}

-- ---- rows and columns by number

abbrev pub row_key_of : RowRef → ℕ
row_key_of Objective = zero
row_key_of (Row i) = suc i

abbrev pub is_objective_ref : RowRef → Bool
is_objective_ref Objective = true
is_objective_ref (Row i) = false

abbrev pub row_name : Tables → ℕ → Option (List ℕ)
row_name t = name_of_row_key t.objective t.rows.entries

abbrev pub column_name : Tables → ℕ → Option (List ℕ)
column_name t i = option_map (λ e. e.0) (slice_get t.columns.entries i)

-- whether the objective, or the row at an index, passes its test
abbrev pub row_satisfies : Tables → RowRef → (ObjectiveParts → Bool) → (RowParts → Bool) → Bool
row_satisfies t Objective of_objective of_row = option_map_or of_objective t.objective false
row_satisfies t (Row i) of_objective of_row = option_map_or (λ e. of_row e.1) (slice_get t.rows.entries i) false

-- whether it is a row that is declared by its limits
abbrev pub has_limits : Tables → RowRef → Bool
has_limits t place = row_satisfies t place (λ o. false) (λ row. is_definition_by_limits row.definition)

-- whether it has a right-hand side, or limits in its place; the objective also by a constant of its own
abbrev pub has_rhs_at : Tables → Bool → RowRef → Bool
has_rhs_at t has_constant place = row_satisfies t place (λ objective. is_some objective.rhs || has_constant) (λ row. is_some row.rhs || is_definition_by_limits row.definition)

-- whether the column of a number passes a test
abbrev pub column_satisfies : Tables → ℕ → (ColumnParts → Bool) → Bool
column_satisfies t i test = option_map_or (λ e. test e.1) (slice_get t.columns.entries i) false

abbrev pub has_lower_at : Tables → ℕ → Bool
has_lower_at t i = column_satisfies t i (λ column. is_some column.sides.lower)

abbrev pub has_upper_at : Tables → ℕ → Bool
has_upper_at t i = column_satisfies t i (λ column. is_some column.sides.upper)

-- the coefficients of the column of a number
abbrev pub cells_at : Tables → ℕ → List (ℕ × Number)
cells_at t i = option_map_or (λ e. cells_of e.1) (slice_get t.columns.entries i) []

-- the declaration that a column has a property
abbrev pub declare_property : Property → List ℕ → Declaration
declare_property Marked column = declare_marked column
declare_property Integer column = declare_integer column
declare_property Binary column = declare_binary column
declare_property Semi column = declare_semi column

-- success if something is found, otherwise the error
abbrev pub answer_of : {X : Type 0} → Result X BuildFault → Answer
answer_of (Ok found) = Ok tt
answer_of (Err fault) = Err fault

-- ---- properties of all tables

-- no two rows have the same name, and no two columns
pub record IsOnceEach (t : Tables) : Type 0 where
  pub rows : IsOnce (each_part definition_of t.rows.entries)
  pub columns : IsOnce (cells_by_name t.columns.entries)

pub record IsEmptyTables (t : Tables) : Type 0 where
  pub objective : t.objective ≡ None
  pub rows : t.rows.entries ≡ []
  pub columns : t.columns.entries ≡ []

-- ---- changes

-- no declaration has changed
pub record IsSameTables (old new : Tables) : Type 0 where
  pub objective : new.objective ≡ old.objective
  pub rows : new.rows.entries ≡ old.rows.entries
  pub columns : new.columns.entries ≡ old.columns.entries

-- only the objective is changed, to these parts
pub record HasObjective (old : Tables) (parts : ObjectiveParts) (new : Tables) : Type 0 where
  pub objective : new.objective ≡ Some parts
  pub rows : new.rows.entries ≡ old.rows.entries
  pub columns : new.columns.entries ≡ old.columns.entries

-- one more row
pub record HasRowAdded (old : Tables) (name : List ℕ) (parts : RowParts) (new : Tables) : Type 0 where
  pub objective : new.objective ≡ old.objective
  pub rows : new.rows.entries ≡ old.rows.entries ++ (name, parts) ∷ []
  pub columns : new.columns.entries ≡ old.columns.entries

-- one more row, whose name is new, and its number fits
pub record HasNewRow (old : Tables) (name : List ℕ) (parts : RowParts) (new : Tables) : Type 0 where
  pub added : HasRowAdded old name parts new
  pub few : length old.rows.entries < 4294967294
  pub absent : has_row (draft None None old) name ≡ false

-- the result of a call that adds a row: an error changes nothing
abbrev pub AddsRow : Tables → List ℕ → RowParts → Answer → Tables → Type 0
AddsRow old name parts answer new = Answers (those_of (row_tests (draft None None old) name)) answer (HasNewRow old name parts new) (IsSameTables old new)

-- only the row at an index is changed, to these parts
pub record HasRowWritten (old : Tables) (i : ℕ) (parts : RowParts) (new : Tables) : Type 0 where
  pub objective : new.objective ≡ old.objective
  pub rows : new.rows.entries ≡ set_value_at old.rows.entries i parts
  pub columns : new.columns.entries ≡ old.columns.entries

-- one more column
pub record HasColumnAdded (old : Tables) (name : List ℕ) (parts : ColumnParts) (new : Tables) : Type 0 where
  pub objective : new.objective ≡ old.objective
  pub rows : new.rows.entries ≡ old.rows.entries
  pub columns : new.columns.entries ≡ old.columns.entries ++ (name, parts) ∷ []

-- only the column of a number is changed, to these parts
pub record HasColumnWritten (old : Tables) (i : ℕ) (parts : ColumnParts) (new : Tables) : Type 0 where
  pub objective : new.objective ≡ old.objective
  pub rows : new.rows.entries ≡ old.rows.entries
  pub columns : new.columns.entries ≡ set_value_at old.columns.entries i parts

-- only the column of a number is changed, in this way
pub record HasColumnChanged (old : Tables) (i : ℕ) (change : ColumnParts → ColumnParts) (new : Tables) : Type 0 where
  pub key : List ℕ
  pub parts : ColumnParts
  pub was : slice_get old.columns.entries i ≡ Some (key, parts)
  pub written : HasColumnWritten old i (change parts) new

-- a coefficient is stored, or the column of a number has one in the row and no declaration has changed
abbrev pub PutsIfFree : Tables → ℕ → ℕ → Number → Result Bool AllocError → Tables → Type 0
PutsIfFree old i row value (Ok true) new = (find nat_cmp row (cells_at old i) ≡ None) × HasColumnChanged old i (with_cell row value) new
PutsIfFree old i row value (Ok false) new = (is_some (find nat_cmp row (cells_at old i)) ≡ true) × IsSameTables old new
PutsIfFree old i row value (Err _) new = IsSameTables old new

-- only the row at an index is changed, in this way
pub record HasRowChanged (old : Tables) (i : ℕ) (change : RowParts → RowParts) (new : Tables) : Type 0 where
  pub key : List ℕ
  pub parts : RowParts
  pub was : slice_get old.rows.entries i ≡ Some (key, parts)
  pub written : HasRowWritten old i (change parts) new

-- only the objective is changed, in this way
pub record HasObjectiveChanged (old : Tables) (change : ObjectiveParts → ObjectiveParts) (new : Tables) : Type 0 where
  pub parts : ObjectiveParts
  pub was : old.objective ≡ Some parts
  pub written : HasObjective old (change parts) new

-- a right-hand side is stored
abbrev pub HasRhsPut : Tables → RowRef → Number → Tables → Type 0
HasRhsPut old Objective value new = HasObjectiveChanged old (λ o. record o { rhs = Some value }) new
HasRhsPut old (Row i) value new = HasRowChanged old i (λ row. record row { rhs = Some value }) new

-- the row (or objective) and the column of each coefficient are declared
abbrev pub CoefficientsAreKnown : Draft → Type 0
CoefficientsAreKnown all = (key : CoefficientKey) → has_coefficient all key ≡ true → (has_row all key.row && has_column all key.column) ≡ true
