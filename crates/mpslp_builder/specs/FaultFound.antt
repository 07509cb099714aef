-- The whole-file error of tables: its kind and its place.
use Rattle.std.specs.Prelude.{ℕ, filter_map, ◌<◌, Bool, true, List, [], ◌∷◌, length, Option, Some, None, slice_get, unwrap_or, if◌then◌else◌}
use Rattle.std.specs.Option.{option_map}
use Rattle.std.specs.Ordering.{is_lt}
use Rattle.mpslp_decimal.specs.Decimal.{zero_number}
use Rattle.mpslp_types.specs.Name.{bytes_cmp}
use Rattle.mpslp_builder.specs.Declaration.{Draft}
pub use Rattle.mpslp_model_core.specs.WrongParts.{is_faulty_row, row_test, bounds_test, are_faulty_bounds, kind_of_row_fault, kind_of_column_fault}
use Rattle.mpslp_types.specs.Lists.{head_of}
use Rattle.mpslp_model_core.specs.declared.limits.RowFault.{RowFault}
use Rattle.mpslp_model_core.specs.declared.bounds.ColumnFault.{ColumnFault}
pub use Rattle.mpslp_builder_parts.specs.Parts.{declared_in}
use Rattle.mpslp_builder_parts.specs.Parts.{ColumnParts}
use Rattle.mpslp_builder.specs.FileFault.{names_with, whole_fault}
use Rattle.mpslp_builder.specs.Tables.{definition_of, rhs_of, range_of}
use Rattle.mpslp_types.specs.declared.faults.Fault.{Fault}
use Rattle.mpslp_types.specs.declared.faults.FaultKind.{FaultKind}
use Rattle.mpslp_types.specs.declared.faults.FaultKind.TheVariants as kinds
use Rattle.mpslp_builder_parts.specs.RowParts.{RowParts}
use Rattle.mpslp_builder.specs.declared.tables.Tables.{Tables}
use Rattle.mpslp_builder.specs.declared.tables.file_faults.FoundFault.{FoundFault}
use Rattle.mpslp_builder.specs.declared.tables.file_faults.FoundFault.TheVariants as found

-- ---- the errors of a row or a column, from what is declared of it

abbrev pub row_fails : RowFault → RowParts → Bool
row_fails fault row = row_test fault (definition_of row) (unwrap_or (rhs_of row) zero_number) (range_of row)

abbrev pub is_wrong_row : RowParts → Bool
is_wrong_row row = is_faulty_row (definition_of row) (unwrap_or (rhs_of row) zero_number) (range_of row)

abbrev pub column_fails : ColumnFault → ColumnParts → Bool
column_fails fault column = bounds_test fault (declared_in column)

abbrev pub is_wrong_column : ColumnParts → Bool
is_wrong_column column = are_faulty_bounds (declared_in column)

-- ---- the least name

-- the lesser of two names; the second is optional
abbrev pub lesser : List ℕ → Option (List ℕ) → List ℕ
lesser name None = name
lesser name (Some other) = if is_lt (bytes_cmp name other) then name else other

-- whether the first name is the lesser
abbrev pub is_below : List ℕ → Option (List ℕ) → Bool
is_below name None = true
is_below name (Some other) = is_lt (bytes_cmp name other)

-- the least name of the entries that pass a test; the entries may be in any order
abbrev pub least_name : {V : Type 0} → (V → Bool) → List (List ℕ × V) → Option (List ℕ)
least_name test [] = None
least_name test (e ∷ es) = if test e.1 then Some (lesser e.0 (least_name test es)) else least_name test es

-- the name at an index
abbrev pub entry_name : {V : Type 0} → List (List ℕ × V) → ℕ → Option (List ℕ)
entry_name es i = option_map (λ e. e.0) (slice_get es i)

-- ---- the error that is found

-- an error of a kind, reported for the least name that has it
abbrev pub named_fault : Draft → FaultKind → Option Fault
named_fault all kind = option_map (λ name. whole_fault kind (Some name)) (head_of (names_with all kind))

-- the first of these errors that a row has
abbrev pub first_row_fault : Draft → List RowFault → Option Fault
first_row_fault all faults = head_of (filter_map (λ fault. named_fault all (kind_of_row_fault fault)) faults)

-- the first of these errors that a column has
abbrev pub first_column_fault : Draft → List ColumnFault → Option Fault
first_column_fault all faults = head_of (filter_map (λ fault. named_fault all (kind_of_column_fault fault)) faults)

abbrev pub fault_found : Tables → FoundFault → Fault
fault_found t found.NoColumns = whole_fault kinds.NoColumns None
fault_found t (found.Row fault i) = whole_fault (kind_of_row_fault fault) (entry_name t.rows.entries i)
fault_found t (found.Column fault j) = whole_fault (kind_of_column_fault fault) (entry_name t.columns.entries j)

-- the tables have a row, or a column, at this index
abbrev pub IsThere : Tables → FoundFault → Type 0
IsThere t found.NoColumns = Unit {0}
IsThere t (found.Row fault i) = i < length t.rows.entries
IsThere t (found.Column fault j) = j < length t.columns.entries
