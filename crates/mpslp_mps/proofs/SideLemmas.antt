-- Right-hand sides, ranges and bounds: their first errors, and what holds after them.
use Rattle.mpslp_mps.proofs.Prelude
use Prelude.{arith, rules, ◌≡◌, refl, sym, ap, ◌∙◌, ℕ, List, [], ◌∷◌, ◌++◌, Bool, true, false, cond, ◌&&◌, ◌||◌, Option, Some, None}
use Prelude.{is_some, MatchResult, Number, same_bytes, FaultKind, declare_rhs, Draft, with_declaration, with_declarations, has_name}
use Prelude.{has_row, is_objective, is_free_row, is_row_by_limits, rhs_declared, has-put, same_name, declared_fault, LineResult, IsErrorOf}
use Prelude.{LineError, earlier_of, declared-append, HasMpsSides, subst, is_none, list_all, flat_map, first_so, second_so, least_kind}
use Prelude.{RowType, Free, AtMost, AtLeast, Equal, RowDefinition, by_type, Declaration, declare_objective, declare_constant, declare_row}
use Prelude.{Declarations, with_declarations-append, at-put, Fields, LineContent, skipped, header, data_line, RowLine, Pair, ValuesLine}
use Prelude.{word_shape, row_shape, row_type, vector_shape, Section, Name, ObjSense, ObjName, Rows, Columns, Rhs, Ranges, Bounds, EndData}
use Prelude.{Context, declared_if_some, sense_declared, is_new_objective, row_of_type, row_declared, columns_line_declared}
use Prelude.{rhs_line_declared, ranges_declared, bound_line_declared, data_declared, header_declared, line_declares, item_fault, value_of}
use Prelude.{declaring_faults, least-append, is_infinite_size, declare_range, declared-one, Ok, Err, option_map, option_map_or, Answers}
use Prelude.{first_refusal, zero_limit, one_limit, declare_integer, declare_semi, declare_lower, declare_upper, has_column, is_semi}
use Prelude.{bounds_declared, refusals, bounds_refusals, bounds_tests, limit_of, is_plus_infinite, is_minus_infinite, those_of, when, Limit}
use Prelude.{BuildFault, nor, BoundLine, bound_type, bound_shape, is_integer_type, is_semi_type, BoundType, lower_given, upper_given}
use Prelude.{kind_declared, bound_declared, type_clash, first_held, error_of_build, IfFault, AreDeclared, kind_tests, call-refused}
use Prelude.{tests-none, tests-error}
use Rattle.std.proofs.Common.{not}
use Rattle.mpslp_types.specs.declared.faults.BuildFault.TheVariants.{UnknownColumn, SemiContinuous}
use Rattle.mpslp_lines.specs.declared.errors.LineError.TheVariants.{Fault}
use Rattle.mpslp_mps.proofs.OrderLemmas.{form_faults, sense-passes}
use Rattle.mpslp_types.specs.declared.faults.FaultKind.TheVariants as kinds
use Rattle.mpslp_mps_fields.specs.declared.bound_types.BoundType.TheVariants as bounds

-- ---- the first error of the right-hand sides of a line

-- ---- one right-hand side

-- a right-hand side of this row is declared
abbrev is_sided : Draft → List ℕ → Bool
is_sided all row = has_name all.rhs_values row || (is_row_by_limits all row || (is_objective all row && is_some all.constant))

-- the kind of the error, by whether the row exists and has a right-hand side
abbrev pub side_kind : Bool → Bool → Option FaultKind
side_kind there sided = cond (not there) (Some kinds.UnknownRow) (cond sided (Some kinds.DuplicateRhs) None)

-- N rows have no right-hand sides
abbrev pub AreLimited : Draft → Type 0
AreLimited all = (row : List ℕ) → is_free_row all row ≡ true → is_sided all row ≡ false

limited-from : (all : Draft) → ((row : List ℕ) → is_free_row all row ≡ true → has_name all.rhs_values row ≡ false) → all.constant ≡ None
    → AreLimited all
limited-from = grind arith

pub limited : (all : Draft) → HasMpsSides all → AreLimited all
limited all sides = limited-from all sides.limited sides.constant

-- one right-hand side
pub side_fault : (all : Draft) (row : List ℕ) (value : Number) → AreLimited all
    → declared_fault all (rhs_declared all row value) ≡ side_kind (has_row all row) (is_sided all row)
side_fault = grind arith

-- ---- after a right-hand side

abbrev pub after_side : Draft → List ℕ → Number → Draft
after_side all row value = with_declarations all (rhs_declared all row value)

-- right-hand sides leave the rows unchanged
same_row : (all : Draft) (row : List ℕ) (value : Number) (other : List ℕ) → has_row (after_side all row value) other ≡ has_row all other
same_row = grind arith

pub same_free : (all : Draft) (row : List ℕ) (value : Number) (other : List ℕ)
    → is_free_row (after_side all row value) other ≡ is_free_row all other
same_free = grind arith

same_side : (all : Draft) (row : List ℕ) (value : Number) (other : List ℕ) (second : Number)
    → rhs_declared (after_side all row value) other second ≡ rhs_declared all other second
same_side all row value other second = ap (λ b. cond b [] (declare_rhs other second ∷ [])) (same_free all row value other)

side_known : (all : Draft) (row : List ℕ) (value : Number) → HasMpsSides all → has_row all row ≡ true → (q : List ℕ)
    → has_name (with_declaration all (declare_rhs row value)).rhs_values q ≡ true → has_row all q ≡ true
side_known = search (rules, has-put, same_name)

side_limited : (all : Draft) (row : List ℕ) (value : Number) → HasMpsSides all → is_free_row all row ≡ false → (q : List ℕ)
    → is_free_row all q ≡ true → has_name (with_declaration all (declare_rhs row value)).rhs_values q ≡ false
side_limited all row value sides limited q h = search (rules, limited, has-put, same_name)

limited-after : (all : Draft) (row : List ℕ) (value : Number) → HasMpsSides all → AreLimited (after_side all row value)
limited-after all row value sides =
    elim (is_free_row all row) as (λ b. is_free_row all row ≡ b
    → AreLimited (with_declarations all (cond b [] (declare_rhs row value ∷ [])))) [
      | true ↦ λ _. limited all sides
      | false ↦ λ given. limited-from (with_declaration all (declare_rhs row value))
          (side_limited all row value sides given) sides.constant
    ] refl

pub sides-after : (all : Draft) (row : List ℕ) (value : Number) → HasMpsSides all → has_row all row ≡ true
    → HasMpsSides (after_side all row value)
sides-after = grind (arith, limited, side_known, side_limited)

-- ---- two right-hand sides

abbrev both : Draft → List ℕ → Number → List ℕ → Number → Option FaultKind
both all row value other second = declared_fault all (rhs_declared all row value ++ rhs_declared all other second)

both_fault : (all : Draft) (row : List ℕ) (value : Number) (other : List ℕ) (second : Number) → HasMpsSides all → both all row value other
    second ≡ earlier_of (side_kind (has_row all row) (is_sided all row))
    (side_kind (has_row all other) (is_sided (after_side all row value) other))
both_fault all row value other second sides =
    let mid = after_side all row value in
    declared-append (rhs_declared all row value) (rhs_declared all other second) all
    ∙ (λ i. earlier_of (side_fault all row value (limited all sides) i)
    (declared_fault mid (sym (same_side all row value other second) i)))
    ∙ (λ i. earlier_of (side_kind (has_row all row) (is_sided all row))
    (side_fault mid other second (limited-after all row value sides) i))
    ∙ (λ i. earlier_of (side_kind (has_row all row) (is_sided all row)) (side_kind (same_row all row value other i) (is_sided mid other)))

pub row-unknown : (all : Draft) (row : List ℕ) (value : Number) (other : List ℕ) (second : Number) → HasMpsSides all
    → (has_row all row && has_row all other) ≡ false → both all row value other second ≡ Some kinds.UnknownRow
row-unknown = grind (arith, both_fault, earlier_of)

pub first-refused : (all : Draft) (row : List ℕ) (value : Number) (other : List ℕ) (second : Number) (error : LineError) → HasMpsSides all
    → (has_row all row && has_row all other) ≡ true → IsErrorOf (declared_fault all (rhs_declared all row value)) error
    → IsErrorOf (both all row value other second) error
first-refused = grind (arith, both_fault, side_fault, limited, earlier_of)

-- ---- right-hand sides that are checked before they are declared

-- the second right-hand side repeats that of the row, which is not of type N
abbrev is_again : Draft → List ℕ → List ℕ → Bool
is_again all row other = same_bytes other row && not (is_free_row all row)

sided_after : (all : Draft) (row : List ℕ) (value : Number) (other : List ℕ)
    → is_sided (after_side all row value) other ≡ (is_again all row other || is_sided all other)
sided_after = grind (arith, has-put)

both_after : (all : Draft) (row : List ℕ) (value : Number) (other : List ℕ) (second : Number) → HasMpsSides all
    → declared_fault all (rhs_declared all row value) ≡ None
    → both all row value other second ≡ side_kind (has_row all other) (is_again all row other || is_sided all other)
both_after = grind (arith, both_fault, earlier_of, sided_after, side_fault, limited)

-- if the first one has no error
pub given-again : (all : Draft) (row : List ℕ) (value : Number) (other : List ℕ) (second : Number) → HasMpsSides all
    → (has_row all row && has_row all other) ≡ true → declared_fault all (rhs_declared all row value) ≡ None
    → (same_bytes other row && not (is_free_row all row)) ≡ true → both all row value other second ≡ Some kinds.DuplicateRhs
given-again = grind (arith, both_after)

pub given-apart : (all : Draft) (row : List ℕ) (value : Number) (other : List ℕ) (second : Number) (answer : LineResult) → HasMpsSides all
    → declared_fault all (rhs_declared all row value) ≡ None → (same_bytes other row && not (is_free_row all row)) ≡ false → MatchResult
    answer (λ _. declared_fault all (rhs_declared all other second) ≡ None)
    (IsErrorOf (declared_fault all (rhs_declared all other second)))
    → MatchResult answer (λ _. both all row value other second ≡ None) (IsErrorOf (both all row value other second))
given-apart = grind (arith, side_fault, limited, both_after)

-- ---- lines of MPS text without an error declare right-hand sides only of declared rows that are not of type N

both_none : (o p : Option FaultKind) → earlier_of o p ≡ None → (o ≡ None) × (p ≡ None)
both_none = grind arith

-- ---- declarations that do not concern rows, right-hand sides, the objective and the constant

abbrev stays : Declaration → Bool
stays (declare_objective name) = false
stays (declare_constant value) = false
stays (declare_row name form) = false
stays (declare_rhs row value) = false
stays _ = true

stays-one : (all : Draft) (d : Declaration) → stays d ≡ true → HasMpsSides all → HasMpsSides (with_declaration all d)
stays-one all d h sides = grind arith

stays-kept : (ds : Declarations) (all : Draft) → list_all stays ds ≡ true → HasMpsSides all → HasMpsSides (with_declarations all ds)
stays-kept [] all h sides = sides
stays-kept (d ∷ ds) all h sides = stays-kept ds (with_declaration all d) (second_so _ _ h) (stays-one all d (first_so _ _ h) sides)

sense-stays : (fields : Fields) → list_all stays (declared_if_some sense_declared (word_shape fields)) ≡ true
sense-stays fields = sense-passes stays (λ s. refl) fields

columns-stay : (context : Context) (fields : Fields) → list_all stays (columns_line_declared context fields) ≡ true
columns-stay = grind arith

ranges-stay : (fields : Fields) → list_all stays (declared_if_some ranges_declared (vector_shape fields)) ≡ true
ranges-stay = grind arith

bounds-stay : (fields : Fields) → list_all stays (bound_line_declared fields) ≡ true
bounds-stay = grind arith

-- ---- the objective and rows

-- an objective, if there is none yet
objective-kept : (all : Draft) (name : List ℕ) → all.objective ≡ None → HasMpsSides all
    → HasMpsSides (with_declaration all (declare_objective name))
objective-kept all name none sides = grind arith

-- a row of a new name
row-kept : (all : Draft) (name : List ℕ) (form : RowDefinition) → has_row all name ≡ false → HasMpsSides all
    → HasMpsSides (with_declaration all (declare_row name form))
row-kept = search (rules, limited, has-put, at-put, same_name)

none_so_mps : (o : Option (List ℕ)) → is_none o ≡ true → o ≡ None
none_so_mps = grind arith

new_row : (all : Draft) (name : List ℕ) (type : RowType) → declared_fault all (declare_row name (by_type type) ∷ [])
    ≡ None → has_row all name ≡ false
new_row = grind arith

objective-or_row : (context : Context) (all : Draft) (name : List ℕ) → declared_fault all (row_of_type context all name Free) ≡ None
    → HasMpsSides all → HasMpsSides (with_declarations all (row_of_type context all name Free))
objective-or_row context all name fault_is sides = by (is_new_objective context all name) refl fault_is
  where
    by : (b : Bool) → is_new_objective context all name ≡ b
        → declared_fault all (cond b (declare_objective name ∷ []) (declare_row name (by_type Free) ∷ [])) ≡ None
        → HasMpsSides (with_declarations all (cond b (declare_objective name ∷ []) (declare_row name (by_type Free) ∷ [])))
    by true new k = objective-kept all name (none_so_mps all.objective (first_so _ _ new)) sides
    by false there k = row-kept all name _ (new_row all name Free k) sides

rows-kept : (context : Context) (all : Draft) (fields : Fields)
    → declared_fault all (declared_if_some (row_declared context all) (row_shape fields)) ≡ None → HasMpsSides all
    → HasMpsSides (with_declarations all (declared_if_some (row_declared context all) (row_shape fields)))
rows-kept context all fields fault_is sides = lined (row_shape fields) fault_is
  where
    typed : (name : List ℕ) (o : Option RowType) → declared_fault all (declared_if_some (row_of_type context all name) o) ≡ None
        → HasMpsSides (with_declarations all (declared_if_some (row_of_type context all name) o))
    typed name None k = sides
    typed name (Some Free) k = objective-or_row context all name k sides
    typed name (Some AtMost) k = row-kept all name _ (new_row all name AtMost k) sides
    typed name (Some AtLeast) k = row-kept all name _ (new_row all name AtLeast k) sides
    typed name (Some Equal) k = row-kept all name _ (new_row all name Equal k) sides

    lined : (o : Option RowLine) → declared_fault all (declared_if_some (row_declared context all) o) ≡ None
        → HasMpsSides (with_declarations all (declared_if_some (row_declared context all) o))
    lined None k = sides
    lined (Some line) k = typed line.name (row_type line.letter) k

-- ---- right-hand sides

there_so : (there sided : Bool) → side_kind there sided ≡ None → there ≡ true
there_so = grind arith

-- in terms of the rows before the line, which are those after each of its right-hand sides
pairs-kept : (pairs : List Pair) (earlier all : Draft)
    → ((row : List ℕ) → is_free_row all row ≡ is_free_row earlier row) → HasMpsSides all
    → declared_fault all (flat_map (λ (pair : Pair). rhs_declared earlier pair.row (value_of pair.literal)) pairs) ≡ None
    → HasMpsSides (with_declarations all (flat_map (λ (pair : Pair). rhs_declared earlier pair.row (value_of pair.literal)) pairs))
pairs-kept [] earlier all free sides fault_is = sides
pairs-kept (pair ∷ pairs) earlier all free sides fault_is =
    let value = value_of pair.literal in
    let here = rhs_declared earlier pair.row value in
    let more = flat_map (λ pair. rhs_declared earlier pair.row _) pairs in
    let same : rhs_declared all pair.row value ≡ here = ap (λ b. cond b [] (declare_rhs pair.row value ∷ [])) (free pair.row) in
    let none = both_none _ (declared_fault (with_declarations all here) more) (sym (declared-append here more all) ∙ fault_is) in
    let there = there_so _ _ (sym (side_fault all pair.row value (limited all sides)) ∙ ap (declared_fault all) same ∙ none.0) in
    let next = subst (λ ds. HasMpsSides (with_declarations all ds)) same (sides-after all pair.row value sides there) in
    let after : (row : List ℕ) → is_free_row (with_declarations all here) row ≡ is_free_row earlier row = λ row. ap
    (λ ds. is_free_row (with_declarations all ds) row) (sym same) ∙ same_free all pair.row value row ∙ free row in
    subst HasMpsSides (sym (with_declarations-append here more all)) (pairs-kept pairs earlier _ after next none.1)

rhs_values-kept : (all : Draft) (fields : Fields) → declared_fault all (declared_if_some (rhs_line_declared all) (vector_shape fields))
    ≡ None → HasMpsSides all → HasMpsSides (with_declarations all (declared_if_some (rhs_line_declared all) (vector_shape fields)))
rhs_values-kept all fields fault_is sides = lined (vector_shape fields) fault_is
  where
    lined : (o : Option ValuesLine) → declared_fault all (declared_if_some (rhs_line_declared all) o) ≡ None
        → HasMpsSides (with_declarations all (declared_if_some (rhs_line_declared all) o))
    lined None k = sides
    lined (Some line) k = pairs-kept line.pairs all all (λ row. refl) sides k

-- ---- a line

header-kept : (context : Context) (earlier : Draft) (more : Fields) (o : Option Section) → HasMpsSides earlier
    → HasMpsSides (with_declarations earlier (header_declared context earlier more o))
header-kept context earlier more o sides = grind arith

data-kept : (context : Context) (earlier : Draft) (fields : Fields) (o : Option Section)
    → declared_fault earlier (data_declared context earlier fields o) ≡ None → HasMpsSides earlier
    → HasMpsSides (with_declarations earlier (data_declared context earlier fields o))
data-kept context earlier fields None fault_is sides = sides
data-kept context earlier fields (Some Name) fault_is sides = sides
data-kept context earlier fields (Some ObjSense) fault_is sides =
    stays-kept (data_declared context earlier fields (Some ObjSense)) earlier (sense-stays fields) sides
data-kept context earlier fields (Some ObjName) fault_is sides = sides
data-kept context earlier fields (Some Rows) fault_is sides = rows-kept context earlier fields fault_is sides
data-kept context earlier fields (Some Columns) fault_is sides =
    stays-kept (columns_line_declared context fields) earlier (columns-stay context fields) sides
data-kept context earlier fields (Some Rhs) fault_is sides = rhs_values-kept earlier fields fault_is sides
data-kept context earlier fields (Some Ranges) fault_is sides =
    stays-kept (declared_if_some ranges_declared (vector_shape fields)) earlier (ranges-stay fields) sides
data-kept context earlier fields (Some Bounds) fault_is sides = stays-kept (bound_line_declared fields) earlier (bounds-stay fields) sides
data-kept context earlier fields (Some EndData) fault_is sides = sides

-- after a line without an error
pub sides-kept : (context : Context) (earlier : Draft) (item : LineContent) → item_fault context earlier item ≡ None → HasMpsSides earlier
    → HasMpsSides (with_declarations earlier (line_declares context earlier item))
sides-kept context earlier skipped fault_is sides = sides
sides-kept context earlier (header keyword more) fault_is sides = header-kept context earlier more _ sides
sides-kept context earlier (data_line fields) fault_is sides =
    let faults = form_faults context earlier (data_line fields) in
    let ds = data_declared context earlier fields context.section in data-kept context earlier fields context.section
    (both_none (least_kind faults) (declared_fault earlier ds)
    (sym (least-append faults (declaring_faults earlier ds)) ∙ fault_is)).1 sides

-- ---- the first error of the ranges of a line

-- the kind of the error, by whether the row exists, has a range, cannot have one, and whether the value is infinite
abbrev range_kind : Bool → Bool → Bool → Bool → Option FaultKind
range_kind there ranged sideless infinite = cond (not there) (Some kinds.UnknownRow)
    (cond ranged (Some kinds.DuplicateRange) (cond sideless (Some kinds.RangeOnFree) (cond infinite (Some kinds.InfiniteValue) None)))

abbrev is_ranged : Draft → List ℕ → Bool
is_ranged all row = has_name all.ranges row || is_row_by_limits all row

abbrev has_no_sides : Draft → List ℕ → Bool
has_no_sides all row = is_objective all row || is_free_row all row

range_fault : (all : Draft) (row : List ℕ) (value : Number) → declared_fault all (declare_range row value ∷ [])
    ≡ range_kind (has_row all row) (is_ranged all row) (has_no_sides all row) (is_infinite_size value)
range_fault all row value = declared-one all (declare_range row value) refl

-- a range does not matter for another row
range-apart : (all : Draft) (row : List ℕ) (value : Number) (other : List ℕ) (second : Number) → same_bytes other row ≡ false
    → declared_fault (with_declaration all (declare_range row value)) (declare_range other second ∷ [])
    ≡ declared_fault all (declare_range other second ∷ [])
range-apart = grind (arith, has-put, range_fault)

pub ranges-apart : (all : Draft) (row : List ℕ) (value : Number) (other : List ℕ) (second : Number) → same_bytes other row ≡ false
    → declared_fault all (declare_range row value ∷ declare_range other second ∷ [])
    ≡ earlier_of (declared_fault all (declare_range row value ∷ [])) (declared_fault all (declare_range other second ∷ []))
ranges-apart all row value other second apart = declared-append (declare_range row value ∷ []) (declare_range other second ∷ []) all
    ∙ ap (earlier_of (declared_fault all (declare_range row value ∷ []))) (range-apart all row value other second apart)

-- if the first range has no error, that of the second is that of both
pub second-range : (all : Draft) (row : List ℕ) (value : Number) (other : List ℕ) (second : Number) (answer : LineResult)
    → same_bytes other row ≡ false → declared_fault all (declare_range row value ∷ []) ≡ None → MatchResult answer
    (λ _. declared_fault all (declare_range other second ∷ []) ≡ None) (IsErrorOf (declared_fault all (declare_range other second ∷ [])))
    → MatchResult answer (λ _. declared_fault all (declare_range row value ∷ declare_range other second ∷ []) ≡ None)
    (IsErrorOf (declared_fault all (declare_range row value ∷ declare_range other second ∷ [])))
second-range = grind (arith, ranges-apart, earlier_of)

-- two ranges of the same row
pub ranges-of_one : (all : Draft) (row : List ℕ) (value : Number) (other : List ℕ) (second : Number) → same_bytes other row ≡ true
    → declared_fault all (declare_range row value ∷ declare_range other second ∷ [])
    ≡ Some (cond (has_row all row) kinds.DuplicateRange kinds.UnknownRow)
ranges-of_one all row value other second same =
    let ranged = has-put other row value all.ranges ∙ ap (λ b. b || has_name all.ranges other) same in
    let next = with_declaration all (declare_range row value) in declared-append (declare_range row value ∷ [])
    (declare_range other second ∷ []) all ∙ (λ i. earlier_of (range_fault all row value i) (range_fault next other second i))
    ∙ (λ i. earlier_of (range_kind (has_row all row) (is_ranged all row) (has_no_sides all row) (is_infinite_size value)) (range_kind
    (has_row all (same_name other row same i)) (ranged i || is_row_by_limits all other) (has_no_sides all other)
    (is_infinite_size second)))
    ∙ by (has_row all row) (is_ranged all row) (has_no_sides all row) (is_infinite_size value)
  where
    by : (a b c d : Bool) → earlier_of (range_kind a b c d) (range_kind a true (has_no_sides all other) (is_infinite_size second))
        ≡ Some (cond a kinds.DuplicateRange kinds.UnknownRow)
    by = grind arith

-- ---- the first error of a bound, whose lower and upper bound are declared by one call

-- the kind of the error, by whether the column exists, a bound is declared already, and one is infinite in the wrong
-- direction
abbrev side_kind_bound : Bool → Bool → Bool → Option FaultKind
side_kind_bound there sided infinite =
    cond (not there) (Some kinds.UnknownColumn) (cond sided (Some kinds.DuplicateBound) (cond infinite (Some kinds.InfiniteValue) None))

lower_fault : (all : Draft) (column : List ℕ) (side : Limit) → declared_fault all (declare_lower column side ∷ [])
    ≡ side_kind_bound (has_column all column) (has_name all.lowers column) (is_plus_infinite side)
lower_fault = grind arith

upper_fault : (all : Draft) (column : List ℕ) (side : Limit) → declared_fault all (declare_upper column side ∷ [])
    ≡ side_kind_bound (has_column all column) (has_name all.uppers column) (is_minus_infinite side)
upper_fault = grind arith

or_none : (b : Bool) → b ≡ (b || false)
or_none = grind arith

both_sides : (a b c d e : Bool) → earlier_of (side_kind_bound a b c) (side_kind_bound a d e) ≡ side_kind_bound a (b || d) (c || e)
both_sides = grind arith

-- over the bounds that are given, at least one
sides_fault : (all : Draft) (column : List ℕ) (lower upper : Option Limit) → (is_some lower || is_some upper) ≡ true
    → declared_fault all (bounds_declared column lower upper) ≡ first_held (kind_tests (bounds_tests all column lower upper))
sides_fault = grind (arith, lower_fault, or_none, upper_fault, declared-append, earlier_of, both_sides)

pub sides-refused : (all : Draft) (column : List ℕ) (lower upper : Option Limit) (fault : BuildFault) (P Q : Type 0)
    → (is_some lower || is_some upper) ≡ true → Answers (bounds_refusals all column lower upper) (Err fault) P Q
    → IsErrorOf (declared_fault all (bounds_declared column lower upper)) (error_of_build fault)
sides-refused = search (rules, sides_fault, call-refused)

-- and nothing has changed
pub sides-unchanged : (faults : List BuildFault) (fault : BuildFault) (P Q : Type 0) (answer : LineResult)
    → Answers faults (Err fault) P Q
    → IfFault answer Q
sides-unchanged = grind arith

-- bounds that are checked
pub sides-none : (all : Draft) (column : List ℕ) (lower upper : Option Limit) → (is_some lower || is_some upper) ≡ true
    → Ok tt ≡ first_refusal (bounds_refusals all column lower upper) → declared_fault all (bounds_declared column lower upper) ≡ None
sides-none all column lower upper h stated = sides_fault all column lower upper h
    ∙ tests-none (bounds_tests all column lower upper) stated

pub sides-error : (all : Draft) (column : List ℕ) (lower upper : Option Limit) (fault : BuildFault)
    → (is_some lower || is_some upper) ≡ true → Err fault ≡ first_refusal (bounds_refusals all column lower upper)
    → IsErrorOf (declared_fault all (bounds_declared column lower upper)) (error_of_build fault)
sides-error = search (rules, sides_fault, tests-error)

-- ---- after the column is declared integer or semi-continuous

abbrev one_kind : Draft → List ℕ → Bool → List (Bool × BuildFault)
one_kind all column other = (not (has_column all column), UnknownColumn) ∷ (other, SemiContinuous) ∷ []

-- if the column is not of the other type
kind_stated : (all : Draft) (d : Declaration) (column : List ℕ) (other : Bool) → refusals all d ≡ those_of (one_kind all column other)
    → other ≡ false → declared_fault all (d ∷ []) ≡ cond (not (has_column all column)) (Some kinds.UnknownColumn) None
kind_stated = grind arith

-- ---- by the type of a bound

pub no-kind : (type : BoundType) (column : List ℕ) → is_integer_type type ≡ false → is_semi_type type ≡ false
    → kind_declared type column ≡ []
no-kind type column h k = λ i. when (h i) (declare_integer column) ++ when (k i) (declare_semi column)

-- at least one bound is given
pub some-side : (type : BoundType) (value : Limit) → (is_some (lower_given type value) || is_some (upper_given type value)) ≡ true
some-side = grind arith

-- the first error of the bounds is the first of all, also if the column does not exist
kind_sides : (all : Draft) (d : Declaration) (column : List ℕ) (lower upper : Option Limit)
    → bounds_tests (with_declaration all d) column lower upper ≡ bounds_tests all column lower upper → declared_fault all (d ∷ [])
    ≡ cond (not (has_column all column)) (Some kinds.UnknownColumn) None → (is_some lower || is_some upper) ≡ true → declared_fault all
    (d ∷ bounds_declared column lower upper) ≡ declared_fault (with_declaration all d) (bounds_declared column lower upper)
kind_sides all d column lower upper same fault_is h =
    let mid = with_declaration all d in
    let sides = sides_fault mid column lower upper h ∙ ap (λ tests. first_held (kind_tests tests)) same in
    declared-append (d ∷ []) (bounds_declared column lower upper) all ∙ (λ i. earlier_of (fault_is i) (sides i))
    ∙ by (has_column all column) ((is_some lower && has_name all.lowers column) || (is_some upper && has_name all.uppers column))
    (option_map_or is_plus_infinite lower false || option_map_or is_minus_infinite upper false) ∙ sym sides
  where
    by : (a b c : Bool) → earlier_of (cond (not a) (Some kinds.UnknownColumn) None) (side_kind_bound a b c) ≡ side_kind_bound a b c
    by false b c = refl
    by true b c = refl

integer_sides : (all : Draft) (column : List ℕ) (lower upper : Option Limit) → is_semi all column ≡ false
    → (is_some lower || is_some upper) ≡ true → declared_fault all (declare_integer column ∷ bounds_declared column lower upper)
    ≡ declared_fault (with_declaration all (declare_integer column)) (bounds_declared column lower upper)
integer_sides = search (rules, kind_sides, kind_stated)

-- a missing column is also an error of the bounds
column_missing : (all : Draft) (d : Declaration) (column : List ℕ) (lower upper : Option Limit) (kind : FaultKind)
    → bounds_tests (with_declaration all d) column lower upper ≡ bounds_tests all column lower upper → declared_fault all (d ∷ [])
    ≡ cond (not (has_column all column)) (Some kinds.UnknownColumn) None → (is_some lower || is_some upper) ≡ true
    → declared_fault all (d ∷ []) ≡ Some kind → declared_fault all (d ∷ bounds_declared column lower upper) ≡ Some kind
column_missing = grind (arith, kind_sides, sides_fault, kind_tests)

integer_missing : (all : Draft) (column : List ℕ) (lower upper : Option Limit) (kind : FaultKind) → is_semi all column ≡ false
    → (is_some lower || is_some upper) ≡ true → declared_fault all (declare_integer column ∷ []) ≡ Some kind
    → declared_fault all (declare_integer column ∷ bounds_declared column lower upper) ≡ Some kind
integer_missing = search (rules, column_missing, kind_stated)

-- whatever type is declared, if there is no clash
pub bound-stated : (all : Draft) (type : BoundType) (column : List ℕ) (value : Limit) → type_clash all type column ≡ false
    → declared_fault all (bound_declared type column value) ≡ declared_fault (with_declarations all (kind_declared type column))
    (bounds_declared column (lower_given type value) (upper_given type value))
bound-stated all bounds.Binary column value apart =
    integer_sides all column (Some zero_limit) (Some one_limit) (nor (is_semi all column) false apart).0 refl
bound-stated all bounds.IntegerLower column value apart =
    integer_sides all column (Some value) None (nor (is_semi all column) false apart).0 refl
bound-stated all bounds.IntegerUpper column value apart =
    integer_sides all column None (Some value) (nor (is_semi all column) false apart).0 refl
bound-stated all bounds.SemiUpper column value apart =
    kind_sides all (declare_semi column) column None (Some value) refl (kind_stated all (declare_semi column) column _ refl apart) refl
bound-stated all type column value apart = refl

-- the type that is declared does not matter for the bounds
same_sides : (all : Draft) (type : BoundType) (column : List ℕ) (lower upper : Option Limit)
    → bounds_tests (with_declarations all (kind_declared type column)) column lower upper ≡ bounds_tests all column lower upper
same_sides = grind arith

-- so their check returns the first error of all before the type is declared
pub bound-asked : (all : Draft) (type : BoundType) (column : List ℕ) (value : Limit) (lower upper : Option Limit)
    → type_clash all type column ≡ false → lower ≡ lower_given type value → upper ≡ upper_given type value
    → declared_fault all (bounds_declared column lower upper) ≡ declared_fault all (bound_declared type column value)
bound-asked = grind (arith, some-side, sides_fault, kind_tests, same_sides, bound-stated)

-- the type, and then the bounds
pub bound-declares : (all mid later : Draft) (type : BoundType) (column : List ℕ) (value : Limit) (lower upper : Option Limit)
    (answer : LineResult) → type_clash all type column ≡ false → mid ≡ with_declarations all (kind_declared type column)
    → lower ≡ lower_given type value → upper ≡ upper_given type value → AreDeclared mid (bounds_declared column lower upper) answer later
    → AreDeclared all (bound_declared type column value) answer later
bound-declares = grind (arith, bound-stated, with_declarations-append)

-- an error of the type is one of all
pub kind-refused : (all : Draft) (type : BoundType) (column : List ℕ) (value : Limit) (error : LineError)
    → type_clash all type column ≡ false → IsErrorOf (declared_fault all (kind_declared type column)) error
    → IsErrorOf (declared_fault all (bound_declared type column value)) error
kind-refused all bounds.Binary column value (Fault kind) apart fault_is =
    integer_missing all column (Some zero_limit) (Some one_limit) kind (nor (is_semi all column) false apart).0 refl fault_is
kind-refused all bounds.IntegerLower column value (Fault kind) apart fault_is =
    integer_missing all column (Some value) None kind (nor (is_semi all column) false apart).0 refl fault_is
kind-refused all bounds.IntegerUpper column value (Fault kind) apart fault_is =
    integer_missing all column None (Some value) kind (nor (is_semi all column) false apart).0 refl fault_is
kind-refused all bounds.SemiUpper column value (Fault kind) apart fault_is = column_missing all (declare_semi column) column None
    (Some value) kind refl (kind_stated all (declare_semi column) column _ refl apart) refl fault_is
kind-refused all type column value error apart fault_is = grind arith

-- ---- what a bound declares

pub bound-is : (letters : List ℕ) (more : Fields) (type : BoundType) (line : BoundLine) (value : Option Number)
    → bound_type letters ≡ Some type → bound_shape type more ≡ Some line → value ≡ option_map value_of line.literal
    → bound_line_declared (letters ∷ more) ≡ bound_declared type line.column (option_map_or limit_of value zero_limit)
bound-is = grind arith
