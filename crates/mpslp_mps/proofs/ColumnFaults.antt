-- The first error of a line of COLUMNS: that of its form and of what it declares together.
use Rattle.mpslp_mps.proofs.Prelude
use Prelude.{arith, ◌≡◌, refl, ℕ, List, [], ◌∷◌, Bool, true, false, cond, not, Option, Some, None, Draft, Fields, column_shape}
use Prelude.{is_marker_line, Section, Columns, marker_tests, column_tests, data_tests, Context, FaultTests, judged_by, ap, ◌∙◌, ◌++◌, ◌&&◌}
use Prelude.{list_all, flat_map, option_map, Number, Declarations, those_of, least_kind, FaultKind, data_line, ValuesLine}
use Prelude.{declared_if_some, data_declared, item_fault, named_values, first_held, declaring_faults, declared_fault, is_from}
use Prelude.{has_kind_clash, form-first, is_after_clash, held-among, with_declarations, ◌||◌, ◌≢◌, first_so, second_so, has_row}
use Prelude.{has_column, has_coefficient, is_semi, column_declared, front_declared, value_declared, lesser, earlier_of, says_no_kind}
use Prelude.{no-clash, declared-append, literals_of, is_split, column_clash, name_tests, number_tests, held-third, least-those_of}
use Prelude.{least-append, declared-after}
use Rattle.mpslp_mps.proofs.OrderLemmas.{each-flat, column-clashes, column-apart}
use Rattle.mpslp_mps.proofs.ModelOrFault.{column-there}
use Rattle.mpslp_mps.proofs.LineFaults.{clash-reported, data-rising, is_early}
use Rattle.mpslp_types.specs.declared.faults.FaultKind.TheVariants as kinds

-- ---- lines of COLUMNS: the first error of their form and of what they declare together

-- ---- marker lines

pub marker-tests : (context : Context) (earlier : Draft) (fields : Fields) → is_marker_line fields ≡ true
    → data_tests context earlier fields (Some Columns) ≡ marker_tests context fields
marker-tests context earlier fields h =
    ap (λ b. cond b (marker_tests context fields) (judged_by (column_tests context earlier) (column_shape fields))) h

pub marker-early : (context : Context) (fields : Fields) → list_all is_early (marker_tests context fields) ≡ true
marker-early = grind arith

pub marker-declares : (context : Context) (earlier : Draft) (fields : Fields) → is_marker_line fields ≡ true
    → data_declared context earlier fields (Some Columns) ≡ []
marker-declares context earlier fields h = ap (λ b. cond b [] (declared_if_some (column_declared context) (column_shape fields))) h

-- ---- what a line of a column declares

-- the column has no error, because it may be declared again, unless it is marked and semi-continuous
pub front-none : (earlier : Draft) (marked : Bool) (column : List ℕ) → (marked && is_semi earlier column) ≡ false
    → declared_fault earlier (front_declared marked column) ≡ None
front-none = grind (arith, column-there)

pub front-there : (earlier : Draft) (marked : Bool) (column : List ℕ)
    → has_column (with_declarations earlier (front_declared marked column)) column ≡ true
front-there = grind (arith, column-there)

abbrev pub are_rows : Draft → List (List ℕ × Number) → Bool
are_rows earlier values = list_all (λ value. has_row earlier value.0) values

pub front-rows : (earlier : Draft) (marked : Bool) (column : List ℕ) (values : List (List ℕ × Number))
    → are_rows (with_declarations earlier (front_declared marked column)) values ≡ are_rows earlier values
front-rows = grind arith

-- one value in a column that exists
pub value-fault : (earlier : Draft) (column : List ℕ) (value : List ℕ × Number) → has_column earlier column ≡ true
    → declared_fault earlier (value_declared column value) ≡ cond (not (has_row earlier value.0)) (Some kinds.UnknownRow)
    (cond (has_coefficient earlier (record { row = value.0; column = column })) (Some kinds.DuplicateEntry) None)
value-fault = grind arith

-- no error, or that of a repeated coefficient
abbrev pub MayRepeat : Option FaultKind → Type 0
MayRepeat fault = (repeated : Bool) × (fault ≡ cond repeated (Some kinds.DuplicateEntry) None)

-- if the rows are declared, a repeated coefficient is the only possible error
pub values-repeat : (values : List (List ℕ × Number)) (earlier : Draft) (column : List ℕ) → has_column earlier column ≡ true
    → are_rows earlier values ≡ true → MayRepeat (declared_fault earlier (flat_map (value_declared column) values))
values-repeat [] earlier column there rows = (false, refl)
values-repeat (value ∷ values) earlier column there rows =
    let next = with_declarations earlier (value_declared column value) in
    let double = has_coefficient earlier _ in
    let row = first_so _ _ rows in
    let first = value-fault earlier column value there
    ∙ ap (λ b. cond (not b) (Some kinds.UnknownRow) (cond double (Some kinds.DuplicateEntry) None)) row in
    let later = values-repeat values next column there (second_so _ _ rows) in (
      double || later.0,
      declared-append
          (value_declared column value) (flat_map (value_declared column) values) earlier
          ∙ (λ i. earlier_of (first i) (later.1 i)) ∙ by double later.0,
    )
  where
    by : (a b : Bool) → earlier_of (cond a (Some kinds.DuplicateEntry) None) (cond b (Some kinds.DuplicateEntry) None)
        ≡ cond (a || b) (Some kinds.DuplicateEntry) None
    by true true = refl
    by true false = refl
    by false b = refl

-- an unknown row comes first
pub values-unknown : (values : List (List ℕ × Number)) (earlier : Draft) (column : List ℕ) → has_column earlier column ≡ true
    → are_rows earlier values ≡ false → declared_fault earlier (flat_map (value_declared column) values) ≡ Some kinds.UnknownRow
values-unknown [] earlier column there rows = cc
values-unknown (value ∷ values) earlier column there rows = declared-append (value_declared column value) more earlier
    ∙ ap (λ o. earlier_of o later) (value-fault earlier column value there)
    ∙ by (has_row earlier value.0) double rows (λ h. values-unknown values next column there h)
  where
    more : Declarations
    more = flat_map (value_declared column) values

    next : Draft
    next = with_declarations earlier (value_declared column value)

    later : Option FaultKind
    later = declared_fault next more

    double : Bool
    double = has_coefficient earlier (record { row = value.0; column = column })

    values_apart : (all : Draft) → has_kind_clash all more ≡ false
    values_apart all = no-clash more all (each-flat says_no_kind (value_declared column) values (λ _. refl))

    by : (row b : Bool) → (row && are_rows earlier values) ≡ false → (are_rows earlier values ≡ false → later ≡ Some kinds.UnknownRow)
        → earlier_of (cond (not row) (Some kinds.UnknownRow) (cond b (Some kinds.DuplicateEntry) None)) later ≡ Some kinds.UnknownRow
    by false b h rest = form-first ((true, kinds.UnknownRow) ∷ []) kinds.UnknownRow next more refl refl refl (values_apart next)
    by true true h rest = ap (λ o. Some (lesser kinds.DuplicateEntry o)) (rest h)
    by true false h rest = rest h

-- ---- the first error of a line of a column: of its form, or an unknown row, a split column, or a repeated coefficient

-- ---- the form

-- the tests of names and numbers, which come before the test whether the lines of the column are contiguous
abbrev pub field_tests : ValuesLine → FaultTests
field_tests line = name_tests line.name ++ number_tests (literals_of line.pairs)

abbrev split_test : Context → Draft → List ℕ → FaultTests
split_test context earlier column = (is_split context earlier column, kinds.ColumnSplit) ∷ []

pub plain-tests : (context : Context) (earlier : Draft) (fields : Fields) → is_marker_line fields ≡ false
    → data_tests context earlier fields (Some Columns) ≡ judged_by (column_tests context earlier) (column_shape fields)
plain-tests context earlier fields h =
    ap (λ b. cond b (marker_tests context fields) (judged_by (column_tests context earlier) (column_shape fields))) h

-- an error of the fields is the first error of the line
held_fields : (context : Context) (earlier : Draft) (parts : Option ValuesLine) (kind : FaultKind)
    → first_held (judged_by field_tests parts) ≡ Some kind → first_held (judged_by (column_tests context earlier) parts) ≡ Some kind
held_fields context earlier None kind h = h
held_fields context earlier (Some line) kind h = grind (arith, held-third)

early_fields : (parts : Option ValuesLine) → list_all is_early (judged_by field_tests parts) ≡ true
early_fields = grind arith

abbrev fault_under : Context → Draft → Fields → Option Section → Option FaultKind
fault_under context earlier fields section = least_kind
    (those_of (data_tests context earlier fields section) ++ declaring_faults earlier (data_declared context earlier fields section))

pub column-form : (context : Context) (earlier : Draft) (fields : Fields) (kind : FaultKind) → context.section ≡ Some Columns
    → is_marker_line fields ≡ false → column_clash context earlier fields ≡ false
    → first_held (judged_by field_tests (column_shape fields)) ≡ Some kind → item_fault context earlier (data_line fields) ≡ Some kind
column-form context earlier fields kind here plain apart held =
    let tests = data_tests context earlier fields (Some Columns) in
    ap (fault_under context earlier fields) here ∙ form-first tests kind earlier (data_declared context earlier fields (Some Columns))
    (data-rising context earlier fields (Some Columns)) (ap first_held (plain-tests context earlier fields plain) ∙ held_fields context
    earlier (column_shape fields) kind held) (held-among (λ other. is_from other kinds.UnknownRow) (judged_by field_tests
    (column_shape fields)) kind (early_fields (column_shape fields)) held) (column-clashes context earlier fields plain ∙ apart)

-- a clash of column types, which is reported before all errors of the fields
after_fields : (context : Context) (earlier : Draft) (parts : Option ValuesLine)
    → list_all (λ test. is_after_clash test.1) (judged_by (column_tests context earlier) parts) ≡ true
after_fields = grind arith

pub column-clash-reported : (context : Context) (earlier : Draft) (fields : Fields) → context.section ≡ Some Columns
    → is_marker_line fields
    ≡ false → column_clash context earlier fields ≡ true → item_fault context earlier (data_line fields) ≡ Some kinds.SemiContinuous
column-clash-reported = grind (arith, clash-reported, is_after_clash, plain-tests, after_fields, column-clashes)

-- ---- the form and what is declared

-- if the fields are well-formed, the only other error of the form is a split column
held_split : (context : Context) (earlier : Draft) (parts : Option ValuesLine) (column : List ℕ) (values : List (List ℕ × Number))
    → first_held (judged_by field_tests parts) ≡ None → option_map named_values parts ≡ Some (column, values)
    → first_held (judged_by (column_tests context earlier) parts) ≡ first_held (split_test context earlier column)
held_split context earlier None column values h is = cc
held_split context earlier (Some line) column values h is = grind (arith, held-third)

pub column-declares : (context : Context) (earlier : Draft) (fields : Fields) (column : List ℕ) (values : List (List ℕ × Number))
    → is_marker_line fields ≡ false → option_map named_values (column_shape fields) ≡ Some (column, values)
    → data_declared context earlier
    fields (Some Columns) ≡ front_declared context.in_integer_part column ++ flat_map (value_declared column) values
column-declares = grind arith

-- the draft after the column is declared
abbrev pub with_column : Context → Draft → List ℕ → Draft
with_column context earlier column = with_declarations earlier (front_declared context.in_integer_part column)

pub column-fault : (context : Context) (earlier : Draft) (fields : Fields) (column : List ℕ) (values : List (List ℕ × Number))
    → context.section ≡ Some Columns → is_marker_line fields ≡ false → column_clash context earlier fields ≡ false
    → first_held (judged_by field_tests (column_shape fields)) ≡ None → option_map named_values (column_shape fields)
    ≡ Some (column, values) → item_fault context earlier (data_line fields) ≡ earlier_of (first_held (split_test context earlier column))
    (declared_fault (with_column context earlier column) (flat_map (value_declared column) values))
column-fault context earlier fields column values here plain apart held is =
    let tests = data_tests context earlier fields (Some Columns) in
    let ds = data_declared context earlier fields (Some Columns) in
    let front = front_declared context.in_integer_part column in
    let coefficients = flat_map (value_declared column) values in ap (fault_under context earlier fields) here
    ∙ least-append (those_of tests) (declaring_faults earlier ds) ∙ ap (λ o. earlier_of o (declared_fault earlier ds))
    (least-those_of tests (data-rising context earlier fields (Some Columns)) ∙ ap first_held (plain-tests context earlier fields plain)
    ∙ held_split context earlier _ column values held is) ∙ ap (earlier_of (first_held (split_test context earlier column)))
    (ap (declared_fault earlier) (column-declares context earlier fields column values plain is)
    ∙ declared-after earlier front coefficients
    (front-none earlier context.in_integer_part column (column-apart context earlier fields column values is apart)))

-- ---- the first of these errors

module _ (context : Context) (earlier : Draft) (fields : Fields) (column : List ℕ) (values : List (List ℕ × Number))
    (here : context.section ≡ Some Columns) (plain : is_marker_line fields ≡ false)
    (apart : column_clash context earlier fields ≡ false)
    (held : first_held (judged_by field_tests (column_shape fields)) ≡ None)
    (is : option_map named_values (column_shape fields) ≡ Some (column, values)) where
  there : has_column (with_column context earlier column) column ≡ true
  there = front-there earlier context.in_integer_part column

  rows : are_rows (with_column context earlier column) values ≡ are_rows earlier values
  rows = front-rows earlier context.in_integer_part column values

  abbrev coefficients : Option FaultKind
  coefficients = declared_fault (with_column context earlier column) (flat_map (value_declared column) values)

  fault_is : item_fault context earlier (data_line fields) ≡ earlier_of (first_held (split_test context earlier column)) coefficients
  fault_is = column-fault context earlier fields column values here plain apart held is

  -- that of a row that is not declared, even if the column is split
  pub row-fault : are_rows earlier values ≡ false → item_fault context earlier (data_line fields) ≡ Some kinds.UnknownRow
  row-fault unknown = fault_is ∙ ap (earlier_of (first_held (split_test context earlier column)))
      (values-unknown values _ column there (rows ∙ unknown))
      ∙ by (is_split context earlier column)
    where
      by : (split : Bool) → earlier_of (cond split (Some kinds.ColumnSplit) None) (Some kinds.UnknownRow) ≡ Some kinds.UnknownRow
      by true = refl
      by false = refl

  module _ (known : are_rows earlier values ≡ true) where
    repeat : MayRepeat coefficients
    repeat = values-repeat values _ column there (rows ∙ known)

    pub split-fault : is_split context earlier column ≡ true → item_fault context earlier (data_line fields) ≡ Some kinds.ColumnSplit
    split-fault split = fault_is ∙ (λ i. earlier_of (cond (split i) (Some kinds.ColumnSplit) None) (repeat.1 i)) ∙ by repeat.0
      where
        by : (repeated : Bool) → earlier_of (Some kinds.ColumnSplit) (cond repeated (Some kinds.DuplicateEntry) None)
            ≡ Some kinds.ColumnSplit
        by true = refl
        by false = refl

    -- a line with another error has a repeated coefficient
    pub repeated-fault : is_split context earlier column ≡ false → item_fault context earlier (data_line fields) ≢ None
        → item_fault context earlier (data_line fields) ≡ Some kinds.DuplicateEntry
    repeated-fault split faulty =
        let repeated_is = fault_is ∙ (λ i. earlier_of (cond (split i) (Some kinds.ColumnSplit) None) (repeat.1 i)) in
        repeated_is ∙ by repeat.0 (λ none. faulty (repeated_is ∙ none))
      where
        by : (repeated : Bool) → cond repeated (Some kinds.DuplicateEntry) None ≢ None
            → cond repeated (Some kinds.DuplicateEntry) None ≡ Some kinds.DuplicateEntry
        by true some = refl
        by false some = absurd (some refl)
