-- What the code declares for a line of COLUMNS without an error.
use Rattle.std.specs.Prelude.{◌≡◌, ◌≢◌, ℕ, Bool, true, false, List, [], ◌++◌, Option, None, Result, Ok, Err}
use Rattle.std.specs.List.{flat_map}
use Rattle.mpslp_decimal.specs.Decimal.{Number}
use Rattle.mpslp_types.specs.Name.{is_mps_name}
use Rattle.mpslp_types.specs.NameTests.{name_refusal}
use Rattle.mpslp_types.specs.declared.faults.FaultKind.{FaultKind}
use Rattle.mpslp_builder.specs.Declaration.{Declarations, Draft, with_declarations, has_column}
use Rattle.mpslp_builder.specs.Refusal.{refusals_in_turn}
use Rattle.mpslp_lines.specs.declared.errors.LineError.{LineError}
use Rattle.mpslp_lines.specs.declared.errors.LineError.TheVariants.{OutOfMemory}
use Rattle.mpslp_mps.specs.Context.{Context}
use Rattle.mpslp_mps.specs.ContextStep.{after_column}
use Rattle.mpslp_mps.specs.LineFault.{is_split, literals_of, judged_by, number_tests}
use Rattle.mpslp_lines.specs.FaultTests.{first_held}
use Rattle.mpslp_mps_fields.specs.Line.{Fields, LineContent}
use Rattle.mpslp_mps_fields.specs.DataLine.{column_shape}
use Rattle.mpslp_mps.specs.LineAnswer.{item_fault}
use Rattle.mpslp_mps.specs.ColumnDeclared.{front_declared, value_declared}

-- the error of the number of fields, or of a number
abbrev pub shape_fault : Fields → Option FaultKind
shape_fault fields = first_held (judged_by (λ line. number_tests (literals_of line.pairs)) (column_shape fields))

-- the column, that it is marked, and its coefficients
abbrev pub usual_declared : Bool → List ℕ → List (List ℕ × Number) → Declarations
usual_declared marked column values = front_declared marked column ++ flat_map (value_declared column) values

-- All this is declared without an error; or nothing is; or an allocation failed.
abbrev pub TakesUsual : Draft → Bool → List ℕ → List (List ℕ × Number) → Result Bool LineError → Draft → Type 0
TakesUsual earlier marked column values (Ok true) later =
    (refusals_in_turn earlier (usual_declared marked column values) ≡ []) × (later ≡ with_declarations earlier (usual_declared marked column values)) × (is_mps_name column ≡ true)
TakesUsual earlier marked column values (Ok false) later = later ≡ earlier
TakesUsual earlier marked column values (Err error) later = error ≡ OutOfMemory

-- A line of a declared column that is left has a declaration that is rejected; so has one of a new column with a legal name.
abbrev pub LeavesNext : Draft → Bool → List ℕ → List (List ℕ × Number) → Result Bool LineError → Type 0
LeavesNext earlier marked column values answer = answer ≡ Ok false → has_column earlier column ≡ true → refusals_in_turn earlier (usual_declared marked column values) ≢ []

abbrev pub LeavesFirst : Draft → Bool → List ℕ → List (List ℕ × Number) → Result Bool LineError → Type 0
LeavesFirst earlier marked column values answer =
    answer ≡ Ok false → name_refusal column ≡ None → has_column earlier column ≡ false → refusals_in_turn earlier (usual_declared marked column values) ≢ []

-- A line that is left has an error.
abbrev pub LeavesFaulty : Context → Draft → LineContent → Result Bool LineError → Type 0
LeavesFaulty context earlier item answer = answer ≡ Ok false → item_fault context earlier item ≢ None

-- The line is read, and nothing is against it; or nothing is done; or an allocation failed.
abbrev pub MayPass : Context → Draft → List ℕ → List (List ℕ × Number) → Result Bool LineError → Context → Draft → Type 0
MayPass context earlier column values (Ok true) next later =
    TakesUsual earlier context.in_integer_part column values (Ok true) later × (is_split context earlier column ≡ false) × (next ≡ after_column context column)
MayPass context earlier column values (Ok false) next later = (next ≡ context) × (later ≡ earlier)
MayPass context earlier column values (Err error) next later = error ≡ OutOfMemory
