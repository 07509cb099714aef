-- What a line of a column declares, and the results of the calls that declare it.
use Rattle.std.specs.Prelude.{◌≡◌, ◌≢◌, ℕ, Bool, true, false, List, [], ◌∷◌, ◌++◌, Option, Some, None, Result, Ok, Err}
use Rattle.std.specs.List.{flat_map}
use Rattle.mpslp_decimal.specs.Decimal.{Number}
use Rattle.mpslp_types.specs.Lists.{when}
use Rattle.mpslp_types.specs.declared.faults.BuildFault.{BuildFault}
use Rattle.mpslp_types.specs.declared.faults.BuildFault.TheVariants.{OutOfMemory}
use Rattle.mpslp_builder.specs.Declaration.{declare_column, declare_marked, declare_coefficient, Declarations, Draft, with_declarations}
use Rattle.mpslp_builder.specs.Refusal.{refusals_in_turn}
use Rattle.mpslp_builder.specs.declared.entries.Entry.{Entry}
use Rattle.mpslp_builder.specs.declared.entries.Entries.{Entries}

abbrev pub pair_of : Entry → List ℕ × Number
pair_of entry = (entry.row.now, entry.value)

abbrev pub pair_if_some : Option Entry → List (List ℕ × Number)
pair_if_some None = []
pair_if_some (Some entry) = pair_of entry ∷ []

-- the rows and values of one or two coefficients
abbrev pub listed : Entries → List (List ℕ × Number)
listed entries = pair_of entries.first ∷ pair_if_some entries.second

abbrev pub entry_declared : List ℕ → List ℕ × Number → Declarations
entry_declared column entry = declare_coefficient (record { row = entry.0; column = column }) entry.1 ∷ []

-- that a column is marked
abbrev pub mark_declared : Bool → List ℕ → Declarations
mark_declared is_marked column = when is_marked (declare_marked column)

-- one or two coefficients of a column
abbrev pub entries_declared : Entries → List ℕ → Declarations
entries_declared entries column = flat_map (entry_declared column) (listed entries)

-- that a column is marked, and one or two coefficients of it
abbrev pub parts_declared : Bool → Entries → List ℕ → Declarations
parts_declared is_marked entries column = when is_marked (declare_marked column) ++ flat_map (entry_declared column) (listed entries)

-- a column, that it is marked, and its coefficients
abbrev pub column_line : Bool → List ℕ → List (List ℕ × Number) → Declarations
column_line is_marked column entries = declare_column column ∷ when is_marked (declare_marked column) ++ flat_map (entry_declared column) entries

-- a column, that it is marked, and one or two coefficients of it
abbrev pub line_declared : Bool → List ℕ → Entries → Declarations
line_declared is_marked column entries = column_line is_marked column (listed entries)

-- one of these declarations, made in turn, is rejected
abbrev pub IsRefusedLine : Draft → Bool → List ℕ → Entries → Type 0
IsRefusedLine earlier is_marked column entries = refusals_in_turn earlier (line_declared is_marked column entries) ≢ []

-- The declarations are made, and none of them is rejected; or nothing is declared; or there is no memory.
abbrev pub TakesLine : Draft → Declarations → Result Bool BuildFault → Draft → Type 0
TakesLine earlier declarations (Ok true) later = (refusals_in_turn earlier declarations ≡ []) × (later ≡ with_declarations earlier declarations)
TakesLine earlier declarations (Ok false) later = later ≡ earlier
TakesLine earlier declarations (Err fault) later = fault ≡ OutOfMemory
