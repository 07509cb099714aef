-- What the arrays of a caller define.
--
-- Their items, in this order: the objective, the rows, and then each column with its elements. Each item has steps: what it
-- declares, or an error of its own.
use Rattle.std.specs.Prelude.{◌≡◌, ℕ, zero, suc, ◌+◌, ◌^◌, ℤ, pos, ◌+ℤ◌, ◌*ℤ◌, Bool, true, false, ◌&&◌, not, nat_le, int_lt, IsTrue, List, [], ◌∷◌, ◌++◌, map, length, slice_get, slice_range, Option, None, Some, Result, Ok, Err, if◌then◌else◌}
use Rattle.std.specs.List.{list_all, flat_map}
use Rattle.std.specs.Option.{option_map_or}
use Rattle.std.specs.Fmt.{signed_decimal}
use Rattle.std.specs.Ordering.{int_eq}
use Rattle.mpslp_decimal.specs.Decimal.{Number, normal, has_few_digits, has_small_exponent}
use Rattle.mpslp_types.specs.Limit.{limit_of}
use Rattle.mpslp_types.specs.NameTests.{name_refusal}
use Rattle.mpslp_types.specs.declared.names.NameFault.{NameFault}
use Rattle.mpslp_types.specs.declared.names.NameFault.TheVariants as names
use Rattle.mpslp_types.specs.declared.faults.FaultKind.{FaultKind}
use Rattle.mpslp_types.specs.declared.faults.FaultKind.TheVariants.{NameLength, NameByte, NameMarker, BadNumber, TooManyDigits, ExponentRange, BadType, UnknownRow, ColumnSplit}
use Rattle.mpslp_types.specs.declared.kinds.Limit.{Limit}
use Rattle.mpslp_types.specs.declared.kinds.Limit.TheVariants.{MinusInf, PlusInf}
use Rattle.mpslp_types.specs.declared.kinds.Sense.TheVariants.{Minimize, Maximize}
use Rattle.mpslp_model_core.specs.Model.{LinearModel}
use Rattle.mpslp_types.specs.Lists.{head_of}
use Rattle.mpslp_builder.specs.Declaration.{Declaration, declare_sense, declare_objective, declare_constant, declare_row, declare_column, declare_coefficient, declare_integer, declare_semi, by_limits, Declarations, Draft, with_declarations, bounds_declared}
use Rattle.mpslp_builder.specs.Refusal.{refusals, bounds_refusals}
use Rattle.mpslp_builder.specs.Meaning.{Means}
use Rattle.mpslp_lines.specs.FaultTests.{kind_of_build_fault}
use Rattle.mpslp_lines.specs.declared.errors.LineError.{LineError}
use Rattle.mpslp_lines.specs.declared.errors.LineError.TheVariants.{Fault, OutOfMemory}
use Rattle.mpslp_c.specs.declared.faults.TheConstants.{AT_OBJECTIVE, AT_ROW, AT_COLUMN, AT_ELEMENT}
use Rattle.mpslp_c.specs.declared.faults.ItemFault.{ItemFault}
use Rattle.mpslp_c.specs.declared.faults.StoreFault.{StoreFault}
use Rattle.mpslp_c.specs.declared.faults.StoreFault.TheVariants as stored
use Rattle.mpslp_c.specs.declared.numbers.MpslpNumber.{MpslpNumber}
use Rattle.mpslp_c.specs.declared.arrays.MpslpName.{MpslpName}
use Rattle.mpslp_c.specs.declared.arrays.MpslpRow.{MpslpRow}
use Rattle.mpslp_c.specs.declared.arrays.MpslpColumn.{MpslpColumn}
use Rattle.mpslp_c.specs.declared.arrays.MpslpElement.{MpslpElement}
use Rattle.mpslp_c.specs.declared.arrays.MpslpModel.{MpslpModel}

-- ---- numbers

-- The mantissa and the exponent as they are given, not in normal form.
abbrev pub given_number : MpslpNumber → Number
given_number number = record { mantissa = (number.high *ℤ pos (2 ^ 64)) +ℤ pos number.low; exponent = number.exponent }

-- the decimal of that value, or why there is none
abbrev pub decimal_given : Number → Result Number FaultKind
decimal_given given =
    let value = normal given in
    if not (has_few_digits value) then Err TooManyDigits
    else (if not (has_small_exponent value) then Err ExponentRange
    else Ok value)

-- a finite number
abbrev pub number_given : MpslpNumber → Result Number FaultKind
number_given number = if int_eq number.infinity (pos 0) then decimal_given (given_number number) else Err BadNumber

abbrev pub finite_limit : Result Number FaultKind → Result Limit FaultKind
finite_limit (Ok value) = Ok (limit_of value)
finite_limit (Err kind) = Err kind

-- A limit or bound. As in a file, a number with an absolute value of 10^20 or more is the infinity of its sign.
abbrev pub limit_given : MpslpNumber → Result Limit FaultKind
limit_given number =
    if int_lt number.infinity (pos 0) then Ok MinusInf
    else (if int_lt (pos 0) number.infinity then Ok PlusInf
    else finite_limit (decimal_given (given_number number)))

-- the literal of a mantissa and an exponent
abbrev pub literal_text : ℤ → ℤ → List ℕ
literal_text mantissa exponent = signed_decimal mantissa ++ 101 ∷ signed_decimal exponent

-- ---- names

abbrev pub kind_of_name_fault : NameFault → FaultKind
kind_of_name_fault names.NameLength = NameLength
kind_of_name_fault names.NameByte = NameByte
kind_of_name_fault names.NameMarker = NameMarker
kind_of_name_fault names.OutOfMemory = NameLength

abbrev pub bytes_at : List ℕ → MpslpName → List ℕ
bytes_at all name = slice_range all name.at (name.at + name.len)

-- the bytes of a name, if they are within the names and legal
abbrev pub name_given : List ℕ → MpslpName → Result (List ℕ) FaultKind
name_given all name =
    if nat_le (name.at + name.len) (length all)
    then option_map_or (λ fault. Err (kind_of_name_fault fault)) (name_refusal (bytes_at all name)) (Ok (bytes_at all name))
    else Err NameLength

-- ---- steps

-- An error; or one declaration; or both bounds of a column, which are declared by one call.
pub data Step : Type 0 where
  fails : FaultKind → Step
  declares : Declaration → Step
  bounds : List ℕ → Limit → Limit → Step

-- the errors of a step after what was declared before it, in their order
abbrev pub step_faults : Draft → Step → List FaultKind
step_faults all (fails kind) = kind ∷ []
step_faults all (declares declaration) = map kind_of_build_fault (refusals all declaration)
step_faults all (bounds column lower upper) = map kind_of_build_fault (bounds_refusals all column (Some lower) (Some upper))

abbrev pub step_declared : Step → Declarations
step_declared (fails kind) = []
step_declared (declares declaration) = declaration ∷ []
step_declared (bounds column lower upper) = bounds_declared column (Some lower) (Some upper)

-- the first of two errors, if there is one
abbrev pub or_else : {X : Type 0} → Option X → Option X → Option X
or_else None later = later
or_else (Some first) later = Some first

-- the first error of steps, each after all before it
abbrev pub first_kind : Draft → List Step → Option FaultKind
first_kind all [] = None
first_kind all (step ∷ more) = or_else (head_of (step_faults all step)) (first_kind (with_declarations all (step_declared step)) more)

-- the draft after them
abbrev pub after_steps : Draft → List Step → Draft
after_steps all [] = all
after_steps all (step ∷ more) = after_steps (with_declarations all (step_declared step)) more

-- the steps that need a value, or its error
abbrev pub steps_with : {X : Type 0} → Result X FaultKind → (X → List Step) → List Step
steps_with (Ok value) steps = steps value
steps_with (Err kind) steps = fails kind ∷ []

-- ---- the steps of the items

abbrev pub sense_steps : ℕ → List Step
sense_steps zero = declares (declare_sense Minimize) ∷ []
sense_steps (suc zero) = declares (declare_sense Maximize) ∷ []
sense_steps (suc (suc n)) = fails BadType ∷ []

abbrev pub objective_steps : MpslpModel → List Step
objective_steps arrays =
    steps_with (name_given arrays.names.now arrays.objective) (λ name.
    steps_with (number_given arrays.constant) (λ constant.
    declares (declare_objective name) ∷ declares (declare_constant constant) ∷ sense_steps arrays.sense))

abbrev pub row_steps : List ℕ → MpslpRow → List Step
row_steps all row =
    steps_with (name_given all row.name) (λ name.
    steps_with (limit_given row.lower) (λ lower.
    steps_with (limit_given row.upper) (λ upper.
    declares (declare_row name (by_limits lower upper)) ∷ [])))

abbrev pub kind_steps : List ℕ → ℕ → List Step
kind_steps name zero = []
kind_steps name (suc zero) = declares (declare_integer name) ∷ []
kind_steps name (suc (suc zero)) = declares (declare_semi name) ∷ []
kind_steps name (suc (suc (suc n))) = fails BadType ∷ []

-- a column without its elements
abbrev pub column_steps : List ℕ → List ℕ → MpslpColumn → List Step
column_steps all objective column =
    steps_with (name_given all column.name) (λ name.
    steps_with (limit_given column.lower) (λ lower.
    steps_with (limit_given column.upper) (λ upper.
    steps_with (number_given column.cost) (λ cost.
    declares (declare_column name) ∷ bounds name lower upper
    ∷ declares (declare_coefficient (record { row = objective; column = name }) cost) ∷ kind_steps name column.kind))))

-- an element of a row, which is there or not
abbrev pub element_steps : List ℕ → List ℕ → Option MpslpRow → MpslpElement → List Step
element_steps all column None element = fails UnknownRow ∷ []
element_steps all column (Some row) element =
    steps_with (number_given element.value) (λ value. declares (declare_coefficient (record { row = bytes_at all row.name; column = column }) value) ∷ [])

-- ---- the items

pub record Item : Type 0 where
  pub place : ℕ
  pub number : ℕ
  pub steps : List Step

abbrev pub row_items : List ℕ → ℕ → List MpslpRow → List Item
row_items all i [] = []
row_items all i (row ∷ rows) = record { place = AT_ROW; number = i; steps = row_steps all row } ∷ row_items all (suc i) rows

abbrev pub element_items : List ℕ → List MpslpRow → List ℕ → ℕ → List MpslpElement → List Item
element_items all rows column k [] = []
element_items all rows column k (element ∷ elements) =
    record { place = AT_ELEMENT; number = k; steps = element_steps all column (slice_get rows element.row) element } ∷ element_items all rows column (suc k) elements

-- where the elements of a column end: where those of the next column begin, or where all end
abbrev pub elements_end : List MpslpColumn → ℕ → ℕ
elements_end [] count = count
elements_end (column ∷ columns) count = column.first

-- the elements of the column of index `j`, or its error if they are none
abbrev pub own_items : List ℕ → List MpslpRow → List MpslpElement → ℕ → MpslpColumn → ℕ → List Item
own_items all rows elements j column end =
    if nat_le column.first end && nat_le end (length elements)
    then element_items all rows (bytes_at all column.name) column.first (slice_range elements column.first end)
    else record { place = AT_COLUMN; number = j; steps = fails ColumnSplit ∷ [] } ∷ []

abbrev pub column_items : List ℕ → List ℕ → List MpslpRow → List MpslpElement → ℕ → List MpslpColumn → List Item
column_items all objective rows elements j [] = []
column_items all objective rows elements j (column ∷ columns) =
    (record { place = AT_COLUMN; number = j; steps = column_steps all objective column }
    ∷ own_items all rows elements j column (elements_end columns (length elements)))
    ++ column_items all objective rows elements (suc j) columns

-- no element comes before those of the first column
abbrev pub first_column_steps : List MpslpColumn → List Step
first_column_steps [] = []
first_column_steps (column ∷ columns) = if nat_le column.first 0 then [] else fails ColumnSplit ∷ []

abbrev pub items : MpslpModel → List Item
items arrays =
    record { place = AT_OBJECTIVE; number = 0; steps = objective_steps arrays }
    ∷ (row_items arrays.names.now 0 arrays.rows.now
    ++ (record { place = AT_COLUMN; number = 0; steps = first_column_steps arrays.columns.now }
    ∷ column_items arrays.names.now (bytes_at arrays.names.now arrays.objective) arrays.rows.now arrays.elements.now 0 arrays.columns.now))

-- ---- the first error, and the draft

abbrev pub item_fault : Item → FaultKind → ItemFault
item_fault item kind = record { kind = kind; place = item.place; number = item.number }

-- the first error of items, each after all before it
abbrev pub first_item_fault : Draft → List Item → Option ItemFault
first_item_fault all [] = None
first_item_fault all (item ∷ more) =
    option_map_or (λ kind. Some (item_fault item kind)) (first_kind all item.steps) (first_item_fault (after_steps all item.steps) more)

abbrev pub after_items : Draft → List Item → Draft
after_items all [] = all
after_items all (item ∷ more) = after_items (after_steps all item.steps) more

-- ---- the model

abbrev pub is_good : Step → Bool
is_good (fails kind) = false
is_good _ = true

abbrev pub is_good_item : Item → Bool
is_good_item item = list_all is_good item.steps

abbrev pub declared_by : Item → Declarations
declared_by item = flat_map step_declared item.steps

-- The arrays define a model: no item has an error of its own, and what they declare together means the model.
pub record Defines (arrays : MpslpModel) (m : LinearModel) : Type 0 where
  pub good : IsTrue (list_all is_good_item (items arrays))
  pub means : Means (flat_map declared_by (items arrays)) m

-- ---- results

-- The error of a value, where it has one.
abbrev pub IsFaultGiven : {X : Type 0} → Result X FaultKind → LineError → Type 0
IsFaultGiven given (Fault kind) = given ≡ Err kind
IsFaultGiven given OutOfMemory = ⊥

-- Steps were taken; or the result is the first error, or that an allocation failed.
abbrev pub TakesSteps : List Step → Draft → Draft → Result (Unit {0}) LineError → Type 0
TakesSteps steps old new (Ok _) = (first_kind old steps ≡ None) × (new ≡ after_steps old steps)
TakesSteps steps old new (Err (Fault kind)) = first_kind old steps ≡ Some kind
TakesSteps steps old new (Err OutOfMemory) = Unit {0}

-- the result of an item at a place, by the result of its steps
abbrev pub placed : ℕ → ℕ → Result (Unit {0}) LineError → Result (Unit {0}) StoreFault
placed place number (Ok _) = Ok tt
placed place number (Err (Fault kind)) = Err (stored.Item (record { kind = kind; place = place; number = number }))
placed place number (Err OutOfMemory) = Err stored.OutOfMemory
