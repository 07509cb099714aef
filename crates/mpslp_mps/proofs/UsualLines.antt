-- Lines of COLUMNS without an error: what they declare is accepted, and they pass each test of the code.
use Rattle.mpslp_mps.proofs.Prelude
use Prelude.{arith, ◌≡◌, ℕ, List, [], ◌∷◌, Bool, true, false, cond, Option, Some, None, option_map, Number, same_bytes, Fields, data_line}
use Prelude.{column_shape, is_marker_line, Columns, Context, named_values, after_column, refl, Draft, data_declared, data_tests, sym, ap}
use Prelude.{◌∙◌, map, fields, line_declares, ReadsContent, rules, not, Result, Ok, Err, ◌&&◌, flat_map, option_map_or, is_mps_name}
use Prelude.{least_kind, declare_coefficient, with_declaration, with_declarations, has_column, is_semi, refusals_in_turn, IsMade}
use Prelude.{column_line, TakesLine, column_is_legal, with_declarations-append, objective_is, declared_fault, kind_of_build_fault}
use Prelude.{judged_by, first_held, number_tests, LineError, earlier_of, declared-after, ValuesLine, after_data, is_split, literals_of}
use Prelude.{item_fault, MayRead, front_declared, value_declared, usual_declared, TakesUsual, MayPass, ◌≢◌, name_refusal, those_of}
use Prelude.{FaultTests, IsFaultless, faultless, column_tests}
use Rattle.mpslp_mps.proofs.ContextSteps.{step-column}
use Rattle.mpslp_mps.proofs.ColumnFaults.{column-declares, column-fault, field_tests, front-none, front-there, plain-tests, with_column}
use Rattle.mpslp_types.specs.declared.faults.FaultKind.TheVariants as kinds

-- ---- a line of COLUMNS whose declarations are made has no error

-- ---- the name of the column

-- coefficients declare no column
values-keep : (values : List (List ℕ × Number)) (before : Draft) (column : List ℕ)
    → has_column (with_declarations before (flat_map (value_declared column) values)) column ≡ has_column before column
values-keep [] before column = refl
values-keep (value ∷ values) before column =
    values-keep values (with_declaration before (declare_coefficient (record { row = value.0; column = column }) value.1)) column

-- a column that a builder has declared has a legal name
pub usual-named : (earlier later : Draft) (marked : Bool) (column : List ℕ) (values : List (List ℕ × Number))
    → later ≡ with_declarations earlier (usual_declared marked column values) → IsMade later → is_mps_name column ≡ true
usual-named earlier later marked column values is made = let front = front_declared marked column in column_is_legal later column made
    (ap (λ d. has_column d column) (is ∙ with_declarations-append front _ earlier) ∙ values-keep values _ column
    ∙ front-there earlier marked column)

-- the builder's result, with the name
pub usual-taken : (earlier later : Draft) (marked : Bool) (column : List ℕ) (values : List (List ℕ × Number)) (is_done : Bool) → TakesLine
    earlier (column_line marked column values) (Ok is_done) later → IsMade later
    → TakesUsual earlier marked column values (Ok is_done) later
usual-taken earlier later marked column values true taken made =
    (taken.0, taken.1, usual-named earlier later marked column values taken.1 made)
usual-taken earlier later marked column values false taken made = taken

-- ---- the form

-- a legal name has no error
fields-held : (parts : Option ValuesLine) (column : List ℕ) (values : List (List ℕ × Number)) → is_mps_name column ≡ true
    → option_map named_values parts ≡ Some (column, values)
    → first_held (judged_by (λ line. number_tests (literals_of line.pairs)) parts) ≡ None
    → first_held (judged_by field_tests parts) ≡ None
fields-held = grind arith

-- a column that is declared marked is not semi-continuous
semi-apart : (earlier : Draft) (marked : Bool) (column : List ℕ) (values : List (List ℕ × Number))
    → refusals_in_turn earlier (usual_declared marked column values) ≡ [] → (marked && is_semi earlier column) ≡ false
semi-apart = grind arith

clash-apart : (context : Context) (earlier : Draft) (parts : Option ValuesLine) (column : List ℕ) (values : List (List ℕ × Number))
    → option_map named_values parts ≡ Some (column, values) → (context.in_integer_part && is_semi earlier column) ≡ false
    → (context.in_integer_part && option_map_or (λ line. is_semi earlier line.name) parts false) ≡ false
clash-apart = grind arith

-- ---- the line

module _ (context : Context) (earlier : Draft) (fields : Fields) (column : List ℕ) (values : List (List ℕ × Number))
    (here : context.section ≡ Some Columns) (plain : is_marker_line fields ≡ false)
    (held : first_held (judged_by (λ line. number_tests (literals_of line.pairs)) (column_shape fields)) ≡ None)
    (is : option_map named_values (column_shape fields) ≡ Some (column, values))
    (legal : is_mps_name column ≡ true) (split : is_split context earlier column ≡ false)
    (free : refusals_in_turn earlier (usual_declared context.in_integer_part column values) ≡ []) where
  usual-fault : item_fault context earlier (data_line fields) ≡ None
  usual-fault =
      let marked = context.in_integer_part in
      let front = front_declared marked column in
      let more = flat_map (value_declared column) values in
      let apart = semi-apart earlier marked column values free in
      let none : declared_fault (with_column context earlier column) more ≡ None = sym (declared-after earlier front more
      (front-none earlier marked column apart)) ∙ ap (λ faults. least_kind (map kind_of_build_fault faults)) free in
      column-fault context earlier fields column values here plain (clash-apart context earlier _ column values is apart)
      (fields-held _ column values legal is held) is ∙ (λ i. earlier_of (cond (split i) (Some kinds.ColumnSplit) None) (none i))

  pub usual-read : (next : Context) (later : Draft) → next ≡ after_column context column → later ≡ with_declarations earlier
      (usual_declared context.in_integer_part column values) → ReadsContent context earlier (data_line fields) (Ok tt) next later
  usual-read = search (rules, usual-fault, step-column, column-declares)

-- the same for all results
pub usual-passed : (context : Context) (earlier : Draft) (fields : Fields) (column : List ℕ) (values : List (List ℕ × Number))
    → context.section ≡ Some Columns → is_marker_line fields ≡ false
    → first_held (judged_by (λ line. number_tests (literals_of line.pairs)) (column_shape fields)) ≡ None → option_map named_values
    (column_shape fields) ≡ Some (column, values) → (answer : Result Bool LineError) (next : Context) (later : Draft)
    → MayPass context earlier column values answer next later → MayRead context earlier (data_line fields) answer next later
usual-passed context earlier fields column values here plain held is (Ok true) next later h =
    usual-read context earlier fields column values here plain held is h.0.2 h.1 h.0.0 next later h.2 h.0.1
usual-passed context earlier fields column values here plain held is (Ok false) next later h = h
usual-passed context earlier fields column values here plain held is (Err error) next later h = h

-- ---- the last column

not-split : (there last : Bool) → last ≡ true → (there && not last) ≡ false
not-split = grind arith

-- another line of it changes the context as a data line does
pub next-passed : (context : Context) (earlier later : Draft) (column : List ℕ) (values : List (List ℕ × Number)) → option_map_or
    (same_bytes column) context.last_column false ≡ true → TakesUsual earlier context.in_integer_part column values (Ok true) later
    → MayPass context earlier column values (Ok true) (after_data context) later
next-passed = grind (arith, not-split, objective_is)

-- a column that is not declared is not split
pub first-split : (context : Context) (earlier : Draft) (column : List ℕ) → has_column earlier column ≡ false
    → is_split context earlier column ≡ false
first-split context earlier column absent = ap (λ b. b && not (option_map_or (same_bytes column) context.last_column false)) absent

-- ---- a line of COLUMNS without an error passes each test of the code that reads usual lines

-- ---- tests

by_test : {X : Type 0} (b : Bool) (x : X) (xs : List X) (o : Option X) → (xs ≡ [] → o ≡ None)
    → cond b (x ∷ xs) xs ≡ [] → cond b (Some x) o ≡ None
by_test = grind arith

held-none : (tests : FaultTests) → those_of tests ≡ [] → first_held tests ≡ None
held-none [] h = refl
held-none (test ∷ more) h = by_test test.0 test.1 (those_of more) (first_held more) (held-none more) h

numbers-fine : (context : Context) (earlier : Draft) (parts : Option ValuesLine) → first_held (judged_by (column_tests context earlier)
    parts) ≡ None → first_held (judged_by (λ line. number_tests (literals_of line.pairs)) parts) ≡ None
numbers-fine = grind arith

column-fine : (context : Context) (earlier : Draft) (parts : Option ValuesLine) (column : List ℕ) (values : List (List ℕ × Number))
    → option_map named_values parts ≡ Some (column, values) → first_held (judged_by (column_tests context earlier) parts) ≡ None
    → (name_refusal column ≡ None) × (is_split context earlier column ≡ false)
column-fine = grind arith

-- ---- the line

module _ (context : Context) (earlier : Draft) (fields : Fields) (here : context.section ≡ Some Columns)
    (plain : is_marker_line fields ≡ false) (fine : item_fault context earlier (data_line fields) ≡ None) where
  parts : IsFaultless (data_tests context earlier fields context.section) earlier (line_declares context earlier (data_line fields))
  parts = faultless _ earlier _ fine

  form : first_held (judged_by (column_tests context earlier) (column_shape fields)) ≡ None
  form = grind (arith, held-none, plain-tests, parts)

  -- its values are read
  pub usual-numbers : first_held (judged_by (λ line. number_tests (literals_of line.pairs)) (column_shape fields)) ≡ None
  usual-numbers = numbers-fine context earlier (column_shape fields) form

  module _ (column : List ℕ) (values : List (List ℕ × Number)) (is : option_map named_values (column_shape fields)
      ≡ Some (column, values)) where
    -- its name is legal
    pub usual-legal : name_refusal column ≡ None
    usual-legal = (column-fine context earlier _ column values is form).0

    -- none of its declarations is rejected
    pub usual-unrefused : refusals_in_turn earlier (usual_declared context.in_integer_part column values) ≡ []
    usual-unrefused = ap (refusals_in_turn earlier) (sym (ap (data_declared context earlier fields) here
        ∙ column-declares context earlier fields column values plain is)) ∙ parts.unrefused

    -- and its column is new if the last line is of another one
    pub usual-new : option_map_or (same_bytes column) context.last_column false ≡ false → has_column earlier column ≡ false
    usual-new other = by (has_column earlier column) (option_map_or (same_bytes column) context.last_column false) other
        (column-fine context earlier _ column values is form).1
      where
        by : (there last : Bool) → last ≡ false → (there && not last) ≡ false → there ≡ false
        by true false e h = h
        by true true e h = e
        by false last e h = refl

-- ---- the builder's result

-- the same for the values as the reader has them
pub usual-refused : (earlier : Draft) (marked : Bool) (column : List ℕ) (given values : List (List ℕ × Number)) → given ≡ values
    → refusals_in_turn earlier (usual_declared marked column given) ≢ []
    → refusals_in_turn earlier (usual_declared marked column values) ≢ []
usual-refused earlier marked column given values same refused none =
    refused (ap (λ (pairs : List (List ℕ × Number)). refusals_in_turn earlier (usual_declared marked column pairs)) same ∙ none)

ok-same : {A E : Type 0} {x y : A} → ◌≡◌ {A = Result A E} (Ok x) (Ok y) → x ≡ y
ok-same h = cc

-- a result is the same with another type of errors
pub other-errors : {A E F : Type 0} (x y : A) → ◌≡◌ {A = Result A E} (Ok x) (Ok y) → ◌≡◌ {A = Result A F} (Ok x) (Ok y)
other-errors x y h = ap Ok (ok-same h)
