-- Worked examples: declarations, the calls of a builder, and the models that they mean, by computation.
use Rattle.mpslp_builder.proofs.Prelude
use Prelude.{◌≡◌, refl, cond, map, ℕ, pos, negsuc, Option, Some, None, List, [], ◌∷◌, codes, Number, CoefficientKey, key_cmp, bytes_cmp}
use Prelude.{limit_of, by_type, by_limits, Declaration, declare_sense, declare_objective, declare_constant, declare_row, declare_rhs}
use Prelude.{declare_range, declare_column, declare_coefficient, declare_lower, declare_upper, declare_marked, declare_integer}
use Prelude.{declare_binary, declare_semi, Declarations, Draft, empty_draft, with_declaration, with_declarations, draft_of, rhs_declared}
use Prelude.{bounds_declared, zero_limit, one_limit, column_of, model_of, is_nonempty, head_of, refusals, refusals_in_turn, bounds_refusals}
use Prelude.{whole_fault, file_fault, Maximize, Continuous, Integer, Semi, Limit, MinusInf, Finite, PlusInf, Free, AtMost, AtLeast}
use Prelude.{BuildFault, Fault, Column}
use Rattle.mpslp_decimal.specs.Decimal.{trailing_zeros}
use Rattle.mpslp_builder.proofs.WorkedRows.{number, whole}
use Rattle.std.specs.FinMap as maps
use Rattle.mpslp_types.specs.declared.faults.BuildFault.TheVariants as builds
use Rattle.mpslp_types.specs.declared.faults.FaultKind.TheVariants as kinds

-- the result of each call in turn: success, or its first error, and then nothing is declared
abbrev answers : Draft → Declarations → List (Option BuildFault)
answers before [] = []
answers before (d ∷ more) = head_of (refusals before d) ∷ answers
    (cond (is_nonempty (refusals before d)) before (with_declaration before d)) more

-- what is declared after these calls
abbrev after : Draft → Declarations → Draft
after before [] = before
after before (d ∷ more) = after (cond (is_nonempty (refusals before d)) before (with_declaration before d)) more

abbrev f : List ℕ
f = codes "f"

abbrev r : List ℕ
r = codes "r"

abbrev s : List ℕ
s = codes "s"

abbrev x : List ℕ
x = codes "x"

abbrev y : List ℕ
y = codes "y"

abbrev at : List ℕ → List ℕ → CoefficientKey
at row column = record { row = row; column = column }

abbrev one : Number
one = whole (pos 1)

-- ---- the calls of a builder in turn

abbrev first_calls : Declarations
first_calls = declare_objective f ∷ declare_objective (codes "g") ∷ declare_row f (by_type AtMost) ∷ declare_row r (by_type AtMost)
    ∷ declare_row s (by_limits one_limit one_limit) ∷ declare_rhs s one ∷ declare_column x ∷ declare_column x
    ∷ declare_coefficient (at (codes "q") x) one ∷ declare_coefficient (at r y) one ∷ declare_coefficient (at r x) one
    ∷ declare_coefficient (at r x) one ∷ declare_rhs r (whole (pos 4)) ∷ declare_rhs r (whole (pos 4)) ∷ declare_range f one
    ∷ declare_range r (number (pos 1) (pos 20)) ∷ declare_range r (whole (negsuc 1)) ∷ declare_range r (whole (negsuc 1)) ∷ []

first_answers : answers empty_draft first_calls ≡ None ∷ Some builds.SecondObjective ∷ Some builds.DuplicateRow ∷ None ∷ None
    ∷ Some builds.DuplicateRhs ∷ None ∷ None ∷ Some builds.UnknownRow ∷ Some builds.UnknownColumn ∷ None ∷ Some
    builds.DuplicateEntry ∷ None ∷ Some builds.DuplicateRhs ∷ Some builds.RangeOnFree ∷ Some
    builds.InfiniteValue ∷ None ∷ Some builds.DuplicateRange ∷ []
first_answers = refl

abbrev ranged : Draft
ranged = after empty_draft first_calls

abbrev bounded : Draft
bounded = with_declarations ranged (bounds_declared x (Some MinusInf) None)

abbrev bound_calls : List (List BuildFault × List BuildFault)
bound_calls =
    (bounds_refusals ranged x (Some MinusInf) None, []) ∷
    (bounds_refusals bounded x (Some zero_limit) (Some one_limit), builds.DuplicateBound ∷ []) ∷
    -- no bound is given, but the column is still looked up
    (bounds_refusals bounded x None None, []) ∷
    (bounds_refusals bounded y None None, builds.UnknownColumn ∷ []) ∷
    -- each error of a call is checked for both bounds: the duplicate upper bound comes before the infinite lower one
    (
      bounds_refusals (with_declaration ranged (declare_upper x one_limit)) x (Some PlusInf) (Some one_limit),
      builds.DuplicateBound ∷ builds.InfiniteValue ∷ [],
    ) ∷
    []

pub bound_calls-right : map (λ row. row.0) bound_calls ≡ map (λ row. row.1) bound_calls
bound_calls-right = refl

abbrev last_calls : Declarations
last_calls = declare_marked x ∷ declare_integer x ∷ declare_binary y ∷ declare_constant (whole (pos 5)) ∷ declare_rhs f one
    ∷ declare_sense Maximize ∷ declare_sense Maximize ∷ []

last_answers : answers bounded last_calls ≡ None ∷ None ∷ Some builds.UnknownColumn ∷ None ∷ Some builds.DuplicateRhs ∷ None
    ∷ Some builds.DuplicateSense ∷ []
last_answers = refl

abbrev finished : Draft
finished = after bounded last_calls

its_rows : maps.entries (model_of finished).rows ≡ (r, record { lower = Finite (whole (pos 2)); upper = Finite (whole (pos 4)) })
    ∷ (s, record { lower = one_limit; upper = one_limit }) ∷ []
unfolding trailing_zeros
its_rows = maps.entries-from_sorted bytes_cmp _ tt

its_columns : maps.entries (model_of finished).columns ≡ (x, record { kind = Integer; lower = MinusInf; upper = PlusInf }) ∷ []
its_columns = maps.entries-from_sorted bytes_cmp _ tt

its_coefficients : maps.entries (model_of finished).coefficients ≡ (at r x, one) ∷ []
its_coefficients = maps.entries-from_sorted key_cmp _ tt

its_constant : (model_of finished).constant ≡ whole (pos 5)
its_constant = refl

its_sense : (model_of finished).sense ≡ Maximize
its_sense = refl

-- a right-hand side of the objective is its negated constant
constant_by_rhs : answers empty_draft (declare_objective f ∷ declare_rhs f (whole (negsuc 4)) ∷ declare_rhs f (whole (negsuc 4))
    ∷ declare_constant one ∷ []) ≡ None ∷ None ∷ Some builds.DuplicateRhs ∷ Some builds.DuplicateRhs ∷ []
constant_by_rhs = refl

negated_constant : (model_of (draft_of (declare_objective f ∷ declare_rhs f (whole (negsuc 4)) ∷ []))).constant ≡ whole (pos 5)
negated_constant = refl

-- on a row of type N a right-hand side declares nothing, and a range is an error
abbrev with_free_row : Draft
with_free_row = draft_of (declare_objective f ∷ declare_row r (by_type Free) ∷ [])

rhs_of_free_row : rhs_declared with_free_row r one ≡ []
rhs_of_free_row = refl

range_of_free_row : refusals with_free_row (declare_range r one) ≡ builds.RangeOnFree ∷ []
range_of_free_row = refl

-- a second range of a row is a duplicate, even if the first is rejected
ranges_in_turn : refusals_in_turn with_free_row (declare_range r one ∷ declare_range r one ∷ []) ≡ builds.RangeOnFree
    ∷ builds.DuplicateRange ∷ builds.RangeOnFree ∷ []
ranges_in_turn = refl

-- ---- bounds

abbrev bounded_by : Declarations → Draft
bounded_by bounds = draft_of (declare_objective f ∷ declare_column x ∷ bounds)

abbrev minus_one : Limit
minus_one = Finite (whole (negsuc 0))

abbrev four : Limit
four = Finite (whole (pos 4))

-- the bounds are declared before or after the type
abbrev bounded_columns : List (Declarations × Column)
bounded_columns =
    ([], record { kind = Continuous; lower = zero_limit; upper = PlusInf }) ∷
    (declare_marked x ∷ [], record { kind = Integer; lower = zero_limit; upper = one_limit }) ∷
    (declare_marked x ∷ declare_lower x one_limit ∷ [], record { kind = Integer; lower = one_limit; upper = PlusInf }) ∷
    (declare_binary x ∷ declare_lower x one_limit ∷ [], record { kind = Integer; lower = one_limit; upper = one_limit }) ∷ (
      declare_lower x (limit_of (number (negsuc 0) (pos 30))) ∷ declare_upper x (limit_of (number (pos 1) (pos 30))) ∷ [],
      record { kind = Continuous; lower = MinusInf; upper = PlusInf },
    ) ∷
    (declare_semi x ∷ declare_upper x four ∷ [], record { kind = Semi; lower = zero_limit; upper = four }) ∷ (
      declare_upper x four ∷ declare_lower x one_limit ∷ declare_semi x ∷ [],
      record
          { kind = Semi; lower = one_limit; upper = four },
    ) ∷ []

pub bounded_columns-right : map (λ row. column_of (bounded_by row.0) x) bounded_columns ≡ map (λ row. row.1) bounded_columns
bounded_columns-right = refl

-- a column that is semi-continuous has no other type
abbrev types : List (Declarations × Declarations × List (Option BuildFault))
types = (
  [],
  declare_semi y ∷ declare_semi x ∷ declare_semi x ∷ declare_integer x ∷ declare_marked x ∷ declare_binary x ∷ [],
  Some builds.UnknownColumn ∷ None ∷ None ∷ Some builds.SemiContinuous ∷ Some builds.SemiContinuous ∷ Some
      builds.SemiContinuous ∷ [],
) ∷
    (declare_integer x ∷ [], declare_semi x ∷ [], Some builds.SemiContinuous ∷ []) ∷
    (declare_marked x ∷ [], declare_semi x ∷ [], Some builds.SemiContinuous ∷ []) ∷
    (declare_binary x ∷ [], declare_semi x ∷ [], Some builds.SemiContinuous ∷ []) ∷
    []

pub types-right : map (λ row. answers (bounded_by row.0) row.1) types ≡ map (λ row. row.2) types
types-right = refl

-- ---- whole-file errors

-- the first kind, with its least name in byte order: an error of a row comes before one of a column
abbrev crossed : List ℕ → Declaration
crossed name = declare_row name (by_limits one_limit zero_limit)

abbrev faulty_drafts : List (Draft × Option Fault)
faulty_drafts =
    (empty_draft, Some (whole_fault kinds.NoColumns None)) ∷
    (finished, None) ∷ (
      bounded_by (declare_upper x minus_one ∷ crossed (codes "b") ∷ crossed (codes "B") ∷ crossed (codes "ab") ∷ []),
      Some (whole_fault kinds.LimitsCrossed (Some (codes "B"))),
    ) ∷
    (bounded_by (declare_lower x one_limit ∷ declare_upper x one_limit ∷ declare_binary x ∷ []), None) ∷
    (bounded_by (declare_semi x ∷ declare_upper x minus_one ∷ []), Some (whole_fault kinds.NegativeUpper (Some x))) ∷
    (bounded_by (declare_upper x zero_limit ∷ []), None) ∷
    (bounded_by (declare_upper x minus_one ∷ []), Some (whole_fault kinds.NegativeUpper (Some x))) ∷
    (bounded_by (declare_upper x minus_one ∷ declare_lower x MinusInf ∷ []), None) ∷
    (bounded_by (declare_upper x minus_one ∷ declare_lower x zero_limit ∷ []), Some (whole_fault kinds.BoundsCrossed (Some x))) ∷ (
      bounded_by (declare_upper x (Finite (whole (pos 5))) ∷ declare_binary x ∷ []),
      Some
          (whole_fault kinds.BinaryBounds (Some x)),
    ) ∷
    (bounded_by (declare_upper x minus_one ∷ declare_binary x ∷ []), Some (whole_fault kinds.NegativeUpper (Some x))) ∷ (
      bounded_by (declare_lower x (Finite (whole (pos 2))) ∷ declare_binary x ∷ []),
      Some
          (whole_fault kinds.BoundsCrossed (Some x)),
    ) ∷ (bounded_by (declare_semi x ∷ declare_upper x four ∷ []), None) ∷
    (bounded_by (declare_semi x ∷ declare_upper x four ∷ declare_lower x four ∷ []), None) ∷
    (bounded_by (declare_semi x ∷ []), Some (whole_fault kinds.SemiBounds (Some x))) ∷ (
      bounded_by (declare_semi x ∷ declare_upper x (limit_of (number (pos 1) (pos 20))) ∷ []),
      Some (whole_fault kinds.SemiBounds (Some x)),
    ) ∷
    (bounded_by (declare_semi x ∷ declare_upper x zero_limit ∷ []), Some (whole_fault kinds.SemiBounds (Some x))) ∷ (
      bounded_by (declare_semi x ∷ declare_upper x four ∷ declare_lower x minus_one ∷ []),
      Some
          (whole_fault kinds.SemiBounds (Some x)),
    ) ∷ (
      bounded_by (declare_semi x ∷ declare_upper x four ∷ declare_lower x MinusInf ∷ []),
      Some
          (whole_fault kinds.SemiBounds (Some x)),
    ) ∷ (
      bounded_by (declare_semi x ∷ declare_upper x one_limit ∷ declare_lower x four ∷ []),
      Some (whole_fault kinds.BoundsCrossed (Some x)),
    ) ∷
    -- an error of an earlier kind is reported, whichever column has it
    (
      bounded_by (declare_semi x ∷ declare_column y ∷ declare_upper y (Finite (whole (pos 5))) ∷ declare_binary y ∷ []),
      Some (whole_fault kinds.BinaryBounds (Some y)),
    ) ∷
    (draft_of (declare_objective f ∷ []), Some (whole_fault kinds.NoColumns None)) ∷
    -- an infinite right-hand side comes before its inexact range
    (
      bounded_by (declare_row r (by_type AtLeast) ∷ declare_rhs r (number (pos 1) (pos 30)) ∷ declare_range r one ∷ []),
      Some (whole_fault kinds.InfiniteLimit (Some r)),
    ) ∷
    []

pub faulty_drafts-right : map (λ row. file_fault row.0) faulty_drafts ≡ map (λ row. row.1) faulty_drafts
unfolding trailing_zeros
faulty_drafts-right = refl
