-- Steps and items of arrays, one after another: each name is declared before it is used, and what is appended changes nothing before.
use Rattle.std.proofs.Common.{◌≡◌, refl, sym, ap, ◌∙◌, subst, ℕ, zero, suc, ◌<◌, ◌≤◌, ◌+◌, ◌-◌, List, [], ◌∷◌, ◌++◌, length, drop, map}
use Rattle.std.proofs.Common.{Bool, true, false, Option, None, Some, Result, Ok, Err, arith, add-one, append_assoc, rules}
use Rattle.std.proofs.lemmas.{Option.slice_get-get_or, Grind.flat_map-append, List.Sums.sum_by_more}
use Rattle.std.specs.Prelude.{pos, slice_get, slice_range, get_or, IfNone, IsErrAnd, ◌&&◌}
use Rattle.std.specs.{Option.option_map_or, List.{list_all, flat_map}, Cmp.{first_so, second_so, Lexicographic.bytes_decides}}
use Rattle.mpslp_decimal.specs.Decimal.{Number}
use Rattle.mpslp_types.specs.{Lists.head_of, NameTests.name_refusal, declared.{kinds.Limit.Limit, names.NameFault.NameFault}}
use Rattle.mpslp_types.specs.{declared.faults.{FaultKind.FaultKind, BuildFault.BuildFault}, Name.same_bytes}
use Rattle.mpslp_types.proofs.BoolLemmas.{both_so, or_left}
use Rattle.mpslp_model_core.specs.{Model.LinearModel, Views.{num_columns, row_name, column_name, numbered_elements}}
use Rattle.mpslp_builder.specs.{Answer.Answers, Declaration.{declare_objective, declare_constant, declare_row, declare_column}}
use Rattle.mpslp_builder.specs.Declaration.{declare_coefficient, by_limits, Draft, with_declarations, Declaration, declare_sense}
use Rattle.mpslp_builder.specs.Declaration.{declare_lower, declare_upper, declare_integer, declare_semi, Declarations, empty_draft}
use Rattle.mpslp_builder.specs.{Declaration.{with_declaration, draft_of, has_row, has_column}, Consistency.is_known}
use Rattle.mpslp_builder.proofs.{RefusalLemmas.are_known_in_turn, SlotLemmas.{has-put, itself_named}, MadeDrafts.with_declarations-append}
use Rattle.mpslp_lines.specs.{FaultTests.kind_of_build_fault, ErrorOf.error_of_build, declared.errors.LineError.LineError}
use Rattle.mpslp_c.specs.{Answers.TakesItems, Stored.{Step, declares, bounds, name_given, number_given, limit_given}}
use Rattle.mpslp_c.specs.Stored.{bytes_at, sense_steps, objective_steps, row_steps, kind_steps, column_steps, element_steps, element_items}
use Rattle.mpslp_c.specs.Stored.{own_items, elements_end, column_items, step_faults, step_declared, first_kind, after_steps, steps_with}
use Rattle.mpslp_c.specs.Stored.{Item, item_fault, first_item_fault, after_items, TakesSteps, placed, row_items, first_column_steps, items}
use Rattle.mpslp_c.specs.Stored.{is_good, is_good_item, declared_by, Defines}
use Rattle.mpslp_c.specs.declared.{numbers.MpslpNumber.MpslpNumber, arrays.MpslpName.MpslpName}
use Rattle.mpslp_c.specs.declared.arrays.{MpslpRow.MpslpRow, MpslpColumn.MpslpColumn, MpslpElement.MpslpElement, MpslpModel.MpslpModel}
use Rattle.mpslp_c.specs.declared.faults.{ItemFault.ItemFault, TheConstants.{AT_COLUMN, AT_ELEMENT}, StoreFault.StoreFault}
use Rattle.mpslp_c.specs.Arrays.{KeepsNames, RepresentsRow, RepresentsRows, KeepsElements, RepresentsElement, RepresentsElements}
use Rattle.mpslp_c.specs.Arrays.{RepresentsColumnHead, RepresentsColumn, RepresentsColumns, column_len, elements_before}

-- ---- steps and items, one after another

-- ---- a call of the builder that is a step

-- what is true of steps is true of equal ones
pub steps_are : (steps others : List Step) (old new : Draft) (answer : Result (Unit {0}) LineError) → steps ≡ others
    → TakesSteps others old new answer → TakesSteps steps old new answer
steps_are = grind arith

none_of : (faults : List BuildFault) (P Q : Type 0) → Answers faults (Ok tt) P Q →
    (head_of (map kind_of_build_fault faults) ≡ None) × P
none_of faults P Q h = grind arith

-- a step that was rejected
pub step_refused : (step : Step) (more : List Step) (old new : Draft) (faults : List BuildFault) (fault : BuildFault)
    (P Q : Type 0) → step_faults old step ≡ map kind_of_build_fault faults → Answers faults (Err fault) P Q
    → TakesSteps (step ∷ more) old new (Err (error_of_build fault))
step_refused step more old new faults fault P Q are answered = grind arith

-- the error of a call is returned
pub call_err : (step : Step) (more : List Step) (old new : Draft) (answer : Result (Unit {0}) LineError)
    (faults : List BuildFault) (fault : BuildFault) (P Q : Type 0) →
    step_faults old step ≡ map kind_of_build_fault faults → Answers faults (Err fault) P Q →
    IsErrAnd answer (λ e. e ≡ error_of_build fault) → TakesSteps (step ∷ more) old new answer
call_err step more old new (Ok _) faults fault P Q are answered stated = grind arith
call_err step more old new (Err error) faults fault P Q are answered stated = grind (arith, step_refused)

-- the same, of a call of the builder
pub call_then : (step : Step) (more : List Step) (old mid new : Draft) (answer : Result (Unit {0}) LineError)
    (faults : List BuildFault) (Q : Type 0) → step_faults old step ≡ map kind_of_build_fault faults → Answers faults (Ok tt)
    (mid ≡ with_declarations old (step_declared step)) Q → TakesSteps more mid new answer →
    TakesSteps (step ∷ more) old new answer
call_then = grind arith

pub no_steps : (old : Draft) → TakesSteps [] old old (Ok tt)
no_steps = grind arith

-- ---- items

-- what was declared so far, and what the rest of the items comes to, is what all of them come to
pub record Leads (all : List Item) (old : Draft) (rest : List Item) (now : Draft) : Type 0 where
  pub fault : first_item_fault old all ≡ first_item_fault now rest
  pub after : after_items old all ≡ after_items now rest

pub leads_all : (all : List Item) (old : Draft) → Leads all old all old
leads_all = grind arith

pub leads_is : {all rest others : List Item} {old now : Draft} → rest ≡ others → Leads all old rest now → Leads all old others now
leads_is = grind arith

fault_append : (xs ys : List Item) (all : Draft) → first_item_fault all xs ≡ None
    → first_item_fault all (xs ++ ys) ≡ first_item_fault (after_items all xs) ys
fault_append [] ys all h = refl
fault_append (x ∷ xs) ys all h =
    elim (first_kind all x.steps)
    as (λ o. option_map_or (λ kind. Some (item_fault x kind)) o (first_item_fault (after_steps all x.steps) xs) ≡ None
    → option_map_or (λ kind. Some (item_fault x kind)) o (first_item_fault (after_steps all x.steps) (xs ++ ys))
    ≡ first_item_fault (after_items (after_steps all x.steps) xs) ys) [
      | None ↦ λ later. fault_append xs ys (after_steps all x.steps) later
      | Some kind ↦ λ bad. let no : ⊥ = some_none bad in absurd no
    ] h
  where
    some_none : {f : ItemFault} → ◌≡◌ {A = Option ItemFault} (Some f) None → ⊥
    some_none e = cc

fault_first : (xs ys : List Item) (all : Draft) (fault : ItemFault) → first_item_fault all xs ≡ Some fault
    → first_item_fault all (xs ++ ys) ≡ Some fault
fault_first [] ys all fault h = grind arith
fault_first (x ∷ xs) ys all fault h =
    elim (first_kind all x.steps)
    as (λ o. option_map_or (λ kind. Some (item_fault x kind)) o (first_item_fault (after_steps all x.steps) xs) ≡ Some fault
    → option_map_or (λ kind. Some (item_fault x kind)) o (first_item_fault (after_steps all x.steps) (xs ++ ys)) ≡ Some fault) [
      | None ↦ λ later. fault_first xs ys (after_steps all x.steps) fault later
      | Some kind ↦ λ here. here
    ] h

pub after_append : (xs ys : List Item) (all : Draft) → after_items all (xs ++ ys) ≡ after_items (after_items all xs) ys
after_append [] ys all = refl
after_append (x ∷ xs) ys all = after_append xs ys (after_steps all x.steps)

-- items that were taken
pub leads_then : (all xs ys : List Item) (old now new : Draft) → Leads all old (xs ++ ys) now →
    TakesItems xs now new (Ok tt) → Leads all old ys new
leads_then = grind (arith, fault_append, after_append)

-- one that was not
pub leads_err : (all xs ys : List Item) (old now new later : Draft) (why : StoreFault) → Leads all old (xs ++ ys) now
    → TakesItems xs now new (Err why) → TakesItems all old later (Err why)
leads_err = grind (arith, fault_first)

-- its error is returned
pub leads_reported : (all xs ys : List Item) (old now new later : Draft) (why : StoreFault)
    (answer : Result (Unit {0}) StoreFault) → Leads all old (xs ++ ys) now → TakesItems xs now new (Err why) →
    IsErrAnd answer (λ e. e ≡ why) → TakesItems all old later answer
leads_reported = grind (arith, leads_err)

-- what is left
pub leads_last : (all xs : List Item) (old now new : Draft) (answer : Result (Unit {0}) StoreFault) → Leads all old xs now
    → TakesItems xs now new answer → TakesItems all old new answer
leads_last = grind arith

-- one item by its steps
pub one_item : (item : Item) (old new : Draft) (answer : Result (Unit {0}) LineError) {result : Result (Unit {0}) StoreFault}
    → result ≡ placed item.place item.number answer → TakesSteps item.steps old new answer → TakesItems (item ∷ []) old new result
one_item = grind arith

-- ---- lists by their indices

pub drop_next : {X : Type 0} (xs : List X) (i : ℕ) (x : X) → slice_get xs i ≡ Some x → drop i xs ≡ x ∷ drop (suc i) xs
drop_next [] i x h = grind arith
drop_next {X} (y ∷ xs) zero x h = grind arith
drop_next (y ∷ xs) (suc i) x h = drop_next xs i x h

pub range_next : {X : Type 0} (xs : List X) (k end : ℕ) (x : X) → k < end → slice_get xs k ≡ Some x
    → slice_range xs k end ≡ x ∷ slice_range xs (suc k) end
range_next = grind (arith, drop_next)

-- ---- the steps of items whose values are given

pub objective_taken : (arrays : MpslpModel) (name made : List ℕ) (constant : Number) →
    name_given arrays.names.now arrays.objective ≡ Ok name → number_given arrays.constant ≡ Ok constant →
    IfNone (name_refusal name) (made ≡ name) →
    objective_steps arrays ≡ declares (declare_objective made) ∷ declares
    (declare_constant constant) ∷ sense_steps arrays.sense
objective_taken = grind arith

pub row_taken : (all : List ℕ) (row : MpslpRow) (name made : List ℕ) (lower upper : Limit) → name_given all row.name ≡ Ok name
    → limit_given row.lower ≡ Ok lower → limit_given row.upper ≡ Ok upper → IfNone (name_refusal name) (made ≡ name)
    → row_steps all row ≡ declares (declare_row made (by_limits lower upper)) ∷ []
row_taken = grind arith

pub column_taken : (all objective : List ℕ) (column : MpslpColumn) (name made : List ℕ) (lower upper : Limit)
    (cost : Number) → name_given all column.name ≡ Ok name → limit_given column.lower ≡ Ok lower →
    limit_given column.upper ≡ Ok upper → number_given column.cost ≡ Ok cost →
    IfNone (name_refusal name) (made ≡ name) →
    column_steps all objective column ≡ declares (declare_column made) ∷ bounds name lower upper ∷ declares
    (declare_coefficient (record { row = objective; column = name }) cost) ∷ kind_steps name column.kind
column_taken = grind arith

pub element_taken : (all column : List ℕ) (found : Option MpslpRow) (row : MpslpRow) (element : MpslpElement) (value : Number)
    → found ≡ Some row → number_given element.value ≡ Ok value → element_steps all column found element
    ≡ declares (declare_coefficient (record { row = bytes_at all row.name; column = column }) value) ∷ []
element_taken = grind arith

pub given_bytes : (all : List ℕ) (in_c : MpslpName) (name : List ℕ) → name_given all in_c ≡ Ok name → bytes_at all in_c ≡ name
given_bytes = grind arith

-- ---- the items from an index on

-- what is used for an element or a column that is not there
abbrev no_number : MpslpNumber
no_number = record { low = 0; high = pos 0; exponent = pos 0; infinity = pos 0 }

abbrev pub element_at : List MpslpElement → ℕ → MpslpElement
element_at elements k = get_or elements k (record { row = 0; value = no_number })

abbrev pub column_at : List MpslpColumn → ℕ → MpslpColumn
column_at columns j = get_or columns j
    (record { name = record { at = 0; len = 0 }; lower = no_number; upper = no_number; cost = no_number; first = 0; kind = 0 })

abbrev pub element_item : List ℕ → List MpslpRow → List ℕ → ℕ → MpslpElement → Item
element_item all rows column k element =
    record { place = AT_ELEMENT; number = k; steps = element_steps all column (slice_get rows element.row) element }

abbrev pub column_item : List ℕ → List ℕ → ℕ → MpslpColumn → Item
column_item all objective j column = record { place = AT_COLUMN; number = j; steps = column_steps all objective column }

get_or_same : {X : Type 0} (xs : List X) (i : ℕ) (d : X) → i < length xs → get_or xs i (get_or xs i d) ≡ get_or xs i d
get_or_same [] i d h = grind arith
get_or_same (x ∷ xs) zero d h = refl
get_or_same (x ∷ xs) (suc i) d h = get_or_same xs i d (omega (arith, h))

pub element_lead : (all : List ℕ) (rows : List MpslpRow) (column : List ℕ) (elements : List MpslpElement) (k end : ℕ) → k < end
    → end ≤ length elements → element_items all rows column k (slice_range elements k end) ≡ (element_item all rows column k
    (element_at elements k) ∷ []) ++ element_items all rows column (k + 1) (slice_range elements (k + 1) end)
element_lead = grind (arith, slice_get-get_or, get_or_same, range_next, add-one)

pub column_lead : (all objective : List ℕ) (rows : List MpslpRow) (elements : List MpslpElement)
    (columns : List MpslpColumn) (j : ℕ) → j < length columns → column_items all objective rows elements j (drop j columns)
    ≡ (column_item all objective j (column_at columns j) ∷ []) ++ (own_items all rows elements j (column_at columns j)
    (elements_end (drop (j + 1) columns) (length elements)) ++ column_items all objective rows elements (j + 1)
    (drop (j + 1) columns))
column_lead all objective rows elements columns j below = let column = column_at columns j in
    let there : slice_get columns j ≡ Some column =
    slice_get-get_or columns j column below ∙ ap Some (get_or_same columns j _ below) in
    ap (λ (cs : List MpslpColumn). column_items all objective rows elements j cs) (drop_next columns j column there)
    ∙ (λ i. record { place = AT_COLUMN; number = j; steps = column_steps all objective column }
    ∷ (own_items all rows elements j column (elements_end (drop (sym (add-one j) i) columns) (length elements))
    ++ column_items all objective rows elements (sym (add-one j) i) (drop (sym (add-one j) i) columns)))

-- ---- each name is declared before it is used: the objective and the rows come first, and each column before its
-- elements

pub all-append : {X : Type 0} (p : X → Bool) (xs ys : List X) → list_all p xs ≡ true → list_all p ys ≡ true →
    list_all p (xs ++ ys) ≡ true
all-append p [] ys h k = k
all-append p (x ∷ xs) ys h k = grind (arith, both_so, all-append p xs ys (second_so (p x) (list_all p xs) h) k)

all-parts : {X : Type 0} (p : X → Bool) (xs ys : List X) → list_all p (xs ++ ys) ≡ true →
    (list_all p xs ≡ true) × (list_all p ys ≡ true)
all-parts p [] ys h = (refl, h)
all-parts p (x ∷ xs) ys h = grind (arith, both_so, all-parts p xs ys (second_so (p x) (list_all p (xs ++ ys)) h))

known-append : (xs ys : Declarations) (before : Draft) → are_known_in_turn before xs ≡ true
    → are_known_in_turn (with_declarations before xs) ys ≡ true → are_known_in_turn before (xs ++ ys) ≡ true
known-append [] ys before h k = k
known-append (d ∷ xs) ys before h k =
    grind (
      arith,
      both_so,
      are_known_in_turn,
      known-append xs ys (with_declaration before d)
          (second_so (is_known before d) (are_known_in_turn (with_declaration before d) xs) h) k,
    )

-- ---- what names nothing that has to be there

abbrev names_nothing : Declaration → Bool
names_nothing (declare_sense sense) = true
names_nothing (declare_objective name) = true
names_nothing (declare_constant value) = true
names_nothing (declare_row name definition) = true
names_nothing _ = false

always_known : (ds : Declarations) (before : Draft) → list_all names_nothing ds ≡ true → are_known_in_turn before ds ≡ true
always_known [] before h = refl
always_known (declare_sense sense ∷ more) before h = always_known more (with_declaration before (declare_sense sense)) h
always_known (declare_objective name ∷ more) before h = always_known more (with_declaration before (declare_objective name)) h
always_known (declare_constant value ∷ more) before h = always_known more (with_declaration before (declare_constant value)) h
always_known (declare_row name definition ∷ more) before h =
    always_known more (with_declaration before (declare_row name definition)) h
always_known (d ∷ more) before h = grind arith

abbrev steps_declare : List Step → Declarations
steps_declare steps = flat_map step_declared steps

objective_names : (arrays : MpslpModel) → list_all names_nothing (steps_declare (objective_steps arrays)) ≡ true
objective_names = grind arith

row_names : (all : List ℕ) (row : MpslpRow) → list_all names_nothing (steps_declare (row_steps all row)) ≡ true
row_names = grind arith

rows_name : (all : List ℕ) (i : ℕ) (rows : List MpslpRow) →
    list_all names_nothing (flat_map declared_by (row_items all i rows)) ≡ true
rows_name all i [] = refl
rows_name all i (row ∷ rows) = grind (arith, all-append, row_names, rows_name all (suc i) rows)

-- ---- what is declared of columns

-- of this column
abbrev is_of_column : List ℕ → Declaration → Bool
is_of_column name (declare_coefficient key value) = same_bytes key.column name
is_of_column name (declare_lower column limit) = same_bytes column name
is_of_column name (declare_upper column limit) = same_bytes column name
is_of_column name (declare_integer column) = same_bytes column name
is_of_column name (declare_semi column) = same_bytes column name
is_of_column name _ = false

-- rows that are there in the end are there now
abbrev HasRows : Draft → Draft → Type 0
HasRows before after = (row : List ℕ) → has_row after row ≡ true → has_row before row ≡ true

same_column : (column name : List ℕ) (before : Draft) → same_bytes column name ≡ true → has_column before name ≡ true →
    has_column before column ≡ true
same_column column name before same there = ap (has_column before) ((bytes_decides column name).0 same) ∙ there

column_known : (name : List ℕ) (ds : Declarations) (before after : Draft) → list_all (is_of_column name) ds ≡ true
    → has_column before name ≡ true → HasRows before after → list_all (is_known after) ds ≡ true →
    are_known_in_turn before ds ≡ true
column_known name [] before after own there rows known = refl
column_known name (declare_coefficient key value ∷ more) before after own there rows known =
    grind (
      arith,
      both_so,
      same_column,
      column_known name more (with_declaration before (declare_coefficient key value))
          after (second_so (same_bytes key.column name) (list_all (is_of_column name) more) own) there rows
          (second_so (is_known after (declare_coefficient key value)) (list_all (is_known after) more) known),
    )
column_known name (declare_lower column limit ∷ more) before after own there rows known =
    grind (
      arith,
      both_so,
      same_column,
      column_known name more (with_declaration before (declare_lower column limit))
          after (second_so (same_bytes column name) (list_all (is_of_column name) more) own) there rows
          (second_so (is_known after (declare_lower column limit)) (list_all (is_known after) more) known),
    )
column_known name (declare_upper column limit ∷ more) before after own there rows known =
    grind (
      arith,
      both_so,
      same_column,
      column_known name more (with_declaration before (declare_upper column limit))
          after (second_so (same_bytes column name) (list_all (is_of_column name) more) own) there rows
          (second_so (is_known after (declare_upper column limit)) (list_all (is_known after) more) known),
    )
column_known name (declare_integer column ∷ more) before after own there rows known =
    grind (
      arith,
      both_so,
      same_column,
      column_known name more (with_declaration before (declare_integer column)) after
          (second_so (same_bytes column name) (list_all (is_of_column name) more) own) there rows
          (second_so (is_known after (declare_integer column)) (list_all (is_known after) more) known),
    )
column_known name (declare_semi column ∷ more) before after own there rows known =
    grind (
      arith,
      both_so,
      same_column,
      column_known name more (with_declaration before (declare_semi column)) after
          (second_so (same_bytes column name) (list_all (is_of_column name) more) own) there rows
          (second_so (is_known after (declare_semi column)) (list_all (is_known after) more) known),
    )
column_known name (d ∷ more) before after own there rows known = grind arith

-- ---- what adds no row

abbrev adds_no_row : Declaration → Bool
adds_no_row (declare_objective name) = false
adds_no_row (declare_row name definition) = false
adds_no_row _ = true

rows_stay : (ds : Declarations) (before : Draft) (row : List ℕ) → list_all adds_no_row ds ≡ true
    → has_row (with_declarations before ds) row ≡ has_row before row
rows_stay [] before row h = refl
rows_stay (declare_objective name ∷ more) before row h = grind arith
rows_stay (declare_row name definition ∷ more) before row h = grind arith
rows_stay (d ∷ more) before row h = rows_stay more (with_declaration before d) row h

no_row_of_column : (name : List ℕ) (ds : Declarations) → list_all (is_of_column name) ds ≡ true → list_all adds_no_row ds ≡ true
no_row_of_column name [] h = refl
no_row_of_column name (declare_coefficient key value ∷ more) h =
    no_row_of_column name more (second_so (same_bytes key.column name) (list_all (is_of_column name) more) h)
no_row_of_column name (declare_lower column limit ∷ more) h =
    no_row_of_column name more (second_so (same_bytes column name) (list_all (is_of_column name) more) h)
no_row_of_column name (declare_upper column limit ∷ more) h =
    no_row_of_column name more (second_so (same_bytes column name) (list_all (is_of_column name) more) h)
no_row_of_column name (declare_integer column ∷ more) h =
    no_row_of_column name more (second_so (same_bytes column name) (list_all (is_of_column name) more) h)
no_row_of_column name (declare_semi column ∷ more) h =
    no_row_of_column name more (second_so (same_bytes column name) (list_all (is_of_column name) more) h)
no_row_of_column name (d ∷ more) h = grind arith

-- ---- a column and its elements

kinds_are_own : (name : List ℕ) (kind : ℕ) → list_all (is_of_column name) (steps_declare (kind_steps name kind)) ≡ true
kinds_are_own = grind (arith, both_so, itself_named)

element_is_own : (all column : List ℕ) (row : Option MpslpRow) (element : MpslpElement)
    → list_all (is_of_column column) (steps_declare (element_steps all column row element)) ≡ true
element_is_own = grind (arith, both_so, itself_named)

elements_are_own : (all : List ℕ) (rows : List MpslpRow) (column : List ℕ) (k : ℕ) (elements : List MpslpElement)
    → list_all (is_of_column column) (flat_map declared_by (element_items all rows column k elements)) ≡ true
elements_are_own all rows column k [] = refl
elements_are_own all rows column k (element ∷ elements) =
    grind (arith, all-append, element_is_own, elements_are_own all rows column (suc k) elements)

own_are_own : (all : List ℕ) (rows : List MpslpRow) (elements : List MpslpElement) (j : ℕ) (column : MpslpColumn) (end : ℕ)
    → list_all (is_of_column (bytes_at all column.name)) (flat_map declared_by (own_items all rows elements j column end)) ≡ true
own_are_own = grind (arith, elements_are_own)

-- a column declares itself first, and then what is of it
record BeginsColumn (name : List ℕ) (ds : Declarations) : Type 0 where
  rest : Declarations
  is : ds ≡ declare_column name ∷ rest
  own : list_all (is_of_column name) rest ≡ true

own_then : (name : List ℕ) → same_bytes name name ≡ true → (rest : Bool) → rest ≡ true → (same_bytes name name && rest) ≡ true
own_then = grind arith

column_begins : (all objective : List ℕ) (column : MpslpColumn) → list_all is_good (column_steps all objective column) ≡ true
    → BeginsColumn (bytes_at all column.name) (steps_declare (column_steps all objective column))
column_begins all objective column good =
    by (name_given all column.name) (limit_given column.lower) (limit_given column.upper) (number_given column.cost) refl good
  where
    by : (n : Result (List ℕ) FaultKind) (l u : Result Limit FaultKind) (v : Result Number FaultKind) →
        name_given all column.name ≡ n →
        list_all is_good (steps_with n
        (λ name. steps_with l (λ lower. steps_with u
        (λ upper. steps_with v (λ cost. declares (declare_column name) ∷ bounds name lower upper ∷ declares
        (declare_coefficient (record { row = objective; column = name }) cost) ∷ kind_steps name column.kind)))))
        ≡ true → BeginsColumn (bytes_at all column.name) (steps_declare (steps_with n (λ name. steps_with l (λ lower. steps_with u
        (λ upper. steps_with v (λ cost. declares (declare_column name) ∷ bounds name lower upper ∷ declares
        (declare_coefficient (record { row = objective; column = name }) cost) ∷ kind_steps name column.kind))))))
    by = grind (arith, itself_named, given_bytes, own_then, kinds_are_own)

column_there : (name : List ℕ) (before : Draft) → has_column (with_declaration before (declare_column name)) name ≡ true
column_there = grind (arith, has-put, or_left, itself_named)

-- a column and its elements, in turn
block_known : (name : List ℕ) (ds own : Declarations) (before after : Draft) → BeginsColumn name ds →
    list_all (is_of_column name) own ≡ true → HasRows before after → list_all (is_known after) (ds ++ own) ≡ true →
    are_known_in_turn before (ds ++ own) ≡ true
block_known name ds own before after begins mine rows known =
    let whole : ds ++ own ≡ declare_column name ∷ (begins.rest ++ own) = ap (λ (xs : Declarations). xs ++ own) begins.is in
    ap (are_known_in_turn before) whole ∙ column_known name (begins.rest ++ own)
    (with_declaration before (declare_column name)) after
    (all-append (is_of_column name) begins.rest own begins.own mine) (column_there name before) rows
    (sym (ap (list_all (is_known after)) whole) ∙ known)

block_no_row : (name : List ℕ) (ds own : Declarations) → BeginsColumn name ds → list_all (is_of_column name) own ≡ true
    → list_all adds_no_row (ds ++ own) ≡ true
block_no_row name ds own begins mine = ap (λ (xs : Declarations). list_all adds_no_row (xs ++ own)) begins.is
    ∙ no_row_of_column name (begins.rest ++ own) (all-append (is_of_column name) begins.rest own begins.own mine)

-- ---- all columns

abbrev column_block : List ℕ → List ℕ → List MpslpRow → List MpslpElement → ℕ → MpslpColumn → List MpslpColumn → Declarations
column_block all objective rows elements j column columns = steps_declare (column_steps all objective column)
    ++ flat_map declared_by (own_items all rows elements j column (elements_end columns (length elements)))

columns_are : (all objective : List ℕ) (rows : List MpslpRow) (elements : List MpslpElement) (j : ℕ) (column : MpslpColumn)
    (columns : List MpslpColumn) →
    flat_map declared_by (column_items all objective rows elements j (column ∷ columns)) ≡ column_block all
    objective rows elements j column columns ++ flat_map declared_by (column_items all objective rows elements (suc j) columns)
columns_are = search (rules, flat_map-append)

columns_no_row : (all objective : List ℕ) (rows : List MpslpRow) (elements : List MpslpElement) (j : ℕ)
    (columns : List MpslpColumn) → list_all is_good_item (column_items all objective rows elements j columns) ≡ true
    → list_all adds_no_row (flat_map declared_by (column_items all objective rows elements j columns)) ≡ true
columns_no_row all objective rows elements j [] good = refl
columns_no_row all objective rows elements j (column ∷ columns) good =
    let own = own_items all rows elements j column (elements_end columns (length elements)) in
    let later = column_items all objective rows elements (suc j) columns in
    let here = first_so (list_all is_good (column_steps all objective column)) (list_all is_good_item (own ++ later)) good in
    let rest = all-parts is_good_item own later
    (second_so (list_all is_good (column_steps all objective column)) (list_all is_good_item (own ++ later)) good) in
    ap (list_all adds_no_row) (columns_are all objective rows elements j column columns)
    ∙ all-append adds_no_row (column_block all objective rows elements j column columns) (flat_map declared_by later)
    (block_no_row (bytes_at all column.name) (steps_declare (column_steps all objective column)) (flat_map declared_by own)
    (column_begins all objective column here) (own_are_own all rows elements j column (elements_end columns (length elements))))
    (columns_no_row all objective rows elements (suc j) columns rest.1)

columns_known : (all objective : List ℕ) (rows : List MpslpRow) (elements : List MpslpElement) (j : ℕ)
    (columns : List MpslpColumn) (before after : Draft) →
    list_all is_good_item (column_items all objective rows elements j columns) ≡ true → HasRows before after
    → list_all (is_known after) (flat_map declared_by (column_items all objective rows elements j columns)) ≡ true
    → are_known_in_turn before (flat_map declared_by (column_items all objective rows elements j columns)) ≡ true
columns_known all objective rows elements j [] before after good has known = refl
columns_known all objective rows elements j (column ∷ columns) before after good has known =
    let own = own_items all rows elements j column (elements_end columns (length elements)) in
    let later = column_items all objective rows elements (suc j) columns in
    let here = first_so (list_all is_good (column_steps all objective column)) (list_all is_good_item (own ++ later)) good in
    let rest = all-parts is_good_item own later
    (second_so (list_all is_good (column_steps all objective column)) (list_all is_good_item (own ++ later)) good) in
    let block = column_block all objective rows elements j column columns in
    let are = columns_are all objective rows elements j column columns in
    let parts = all-parts (is_known after) block (flat_map declared_by later) (sym (ap (list_all (is_known after)) are)
    ∙ known) in
    let begins = column_begins all objective column here in
    let mine = own_are_own all rows elements j column (elements_end columns (length elements)) in
    let stay : list_all adds_no_row block ≡ true = block_no_row (bytes_at all column.name)
    (steps_declare (column_steps all objective column)) (flat_map declared_by own) begins mine in
    ap (are_known_in_turn before) are ∙ known-append block (flat_map declared_by later) before
    (block_known (bytes_at all column.name) (steps_declare (column_steps all objective column))
    (flat_map declared_by own) before after begins mine has parts.0)
    (columns_known all objective rows elements (suc j) columns (with_declarations before block) after
    rest.1 (λ row there. rows_stay block before row stay ∙ has row there) parts.1)

-- ---- all items

none_declared : (columns : List MpslpColumn) → steps_declare (first_column_steps columns) ≡ []
none_declared = grind arith

pub items-known : (arrays : MpslpModel) (m : LinearModel) → Defines arrays m
    → are_known_in_turn empty_draft (flat_map declared_by (items arrays)) ≡ true
items-known arrays m defines =
    let names = arrays.names.now in
    let objective = steps_declare (objective_steps arrays) in
    let row_list = row_items names 0 arrays.rows.now in
    let rows = flat_map declared_by row_list in
    let column_list = column_items names (bytes_at names arrays.objective) arrays.rows.now arrays.elements.now 0
    arrays.columns.now in
    let columns = flat_map declared_by column_list in
    let front = objective ++ rows in
    let before = draft_of front in
    let after = draft_of (flat_map declared_by (items arrays)) in
    let start : Item = record { place = AT_COLUMN; number = 0; steps = first_column_steps arrays.columns.now } in
    let whole : flat_map declared_by (items arrays) ≡ front ++ columns =
    ap (λ (ds : Declarations). objective ++ ds) (flat_map-append declared_by row_list (start ∷ column_list)
    ∙ ap (λ (ds : Declarations). rows ++ (ds ++ columns)) (none_declared arrays.columns.now))
    ∙ sym (append_assoc objective rows columns) in
    let good = second_so (list_all is_good (objective_steps arrays))
    (list_all is_good_item (row_list ++ (start ∷ column_list))) defines.good in
    let later = (all-parts is_good_item row_list (start ∷ column_list) good).1 in
    let columns_good = second_so (list_all is_good (first_column_steps arrays.columns.now))
    (list_all is_good_item column_list) later in
    let known : list_all (is_known after) (front ++ columns) ≡ true =
    sym (ap (list_all (is_known after)) whole) ∙ defines.means.consistent.known in
    let ends : after ≡ with_declarations before columns =
    ap draft_of whole ∙ with_declarations-append front columns empty_draft in
    let no_row = columns_no_row names (bytes_at names arrays.objective) arrays.rows.now arrays.elements.now 0
    arrays.columns.now columns_good in
    let has : HasRows before after = λ row there. sym (rows_stay columns before row no_row)
    ∙ ap (λ (d : Draft). has_row d row) (sym ends) ∙ there in
    ap (are_known_in_turn empty_draft) whole ∙ known-append front columns empty_draft
    (always_known front empty_draft
    (all-append names_nothing objective rows (objective_names arrays) (rows_name names 0 arrays.rows.now)))
    (columns_known names (bytes_at names arrays.objective) arrays.rows.now arrays.elements.now 0 arrays.columns.now before after
    columns_good has (all-parts (is_known after) front columns known).1)

-- ---- what is true of rows, columns and elements stays true while more are appended

-- ---- one more in a list

-- what is at a number of a list with one more: it was there, or it is the last one
data IsThere {X : Type 0} (xs : List X) (x : X) (i : ℕ) (y : X) : Type 0 where
  before : slice_get xs i ≡ Some y → IsThere xs x i y
  last : i ≡ length xs → x ≡ y → IsThere xs x i y

is_there : {X : Type 0} (xs : List X) (x : X) (i : ℕ) (y : X) → slice_get (xs ++ x ∷ []) i ≡ Some y → IsThere xs x i y
is_there [] x zero y h = grind arith
is_there [] x (suc i) y h = grind arith
is_there (z ∷ xs) x zero y h = before h
is_there {X} (z ∷ xs) x (suc i) y h = grind (arith, is_there xs x i y h)

-- a fact of each, by its number
pub each-more : {X : Type 0} (P : ℕ → X → Type 0) (xs : List X) (n : ℕ) (x : X) → length xs ≡ n
    → ((i : ℕ) (y : X) → slice_get xs i ≡ Some y → P i y) → P n x → (i : ℕ) (y : X) → slice_get (xs ++ x ∷ []) i ≡ Some y → P i y
each-more {X} P xs n x counted each here i y h = grind (arith, is_there)

-- ---- names that are kept

pub keeps_then : {a b c : List ℕ} → KeepsNames a b → KeepsNames b c → KeepsNames a c
keeps_then one other name in_c h = other name in_c (one name in_c h)

pub row_kept : (m : LinearModel) (names names' : List ℕ) (i : ℕ) (in_c : MpslpRow) → KeepsNames names names' →
    RepresentsRow m names i in_c → RepresentsRow m names' i in_c
row_kept m names names' i in_c keeps row =
    record { name = keeps (row_name m i) in_c.name row.name; lower = row.lower; upper = row.upper }

pub rows_kept : (m : LinearModel) (names names' : List ℕ) (rows : List MpslpRow) → KeepsNames names names' →
    RepresentsRows m names rows → RepresentsRows m names' rows
rows_kept = search (rules, row_kept)

-- one row more
pub rows_more : (m : LinearModel) (names names' : List ℕ) (rows : List MpslpRow) (i : ℕ) (in_c : MpslpRow) → length rows ≡ i
    → KeepsNames names names' → RepresentsRows m names rows → RepresentsRow m names' i in_c →
    RepresentsRows m names' (rows ++ in_c ∷ [])
rows_more m names names' rows i in_c counted keeps rest here =
    each-more (RepresentsRow m names') rows i in_c counted (λ k row at. row_kept m names names' k row keeps (rest k row at)) here

-- ---- elements that are kept

element_kept : (entry : Option (Option ℕ × Number)) (old new : Option MpslpElement)
    → ((in_c : MpslpElement) → old ≡ Some in_c → new ≡ Some in_c) → RepresentsElement entry old → RepresentsElement entry new
element_kept = grind arith

pub column_kept : (m : LinearModel) (names names' : List ℕ) (all all' : List MpslpElement) (j : ℕ) (in_c : MpslpColumn)
    → KeepsNames names names' → KeepsElements all all' → RepresentsColumn m names all j in_c →
    RepresentsColumn m names' all' j in_c
column_kept m names names' all all' j in_c keeps keeps_elements column =
    let head = column.head in
    record {
      head = record {
        name = keeps (column_name m j) in_c.name head.name;
        lower = head.lower;
        upper = head.upper;
        cost = head.cost;
        kind = head.kind;
        first = head.first;
      };
      elements = λ k below. element_kept (slice_get (numbered_elements m (column_name m j)) k) (slice_get all (in_c.first + k))
          (slice_get all' (in_c.first + k))
          (keeps_elements (in_c.first + k)) (column.elements k below);
    }

-- one column more, and its elements
pub columns_more : (m : LinearModel) (names names' : List ℕ) (all all' : List MpslpElement) (columns : List MpslpColumn) (j : ℕ)
    (in_c : MpslpColumn) → length columns ≡ j → length all ≡ elements_before m j → KeepsNames names names' →
    KeepsElements all all' → RepresentsColumns m names all columns → RepresentsColumnHead m names' j in_c
    → RepresentsElements m j (length all) (column_len m (column_name m j)) all' →
    RepresentsColumns m names' all' (columns ++ in_c ∷ [])
columns_more m names names' all all' columns j in_c counted elements_counted keeps keeps_elements rest head elements =
    each-more (RepresentsColumn m names' all') columns j in_c counted
    (λ k column at. column_kept m names names' all all' k column keeps keeps_elements (rest k column at))
    (record {
      head = head;
      elements =
          subst (λ (first : ℕ). RepresentsElements m j first (column_len m (column_name m j)) all')
          (elements_counted ∙ sym head.first) elements;
    })

-- the elements of one column more
pub before_more : (m : LinearModel) (j : ℕ) → j < num_columns m →
    elements_before m (j + 1) ≡ elements_before m j + column_len m (column_name m j)
before_more = grind (arith, sum_by_more)
