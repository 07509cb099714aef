-- A row by its type without a range: its only possible error is its right-hand side. Rows with two equal limits, and
-- columns without bounds.
use Rattle.std.proofs.Common.{◌≡◌, Bool, true, false, ap, arith, refl, sym}
use Rattle.std.specs.{Prelude.{None, Option, Some, is_none, not, unwrap_or, ◌&&◌, ◌||◌}, Cmp.int_cmp_total}
use Rattle.mpslp_decimal.specs.Decimal.{Number, zero_number, difference_of}
use Rattle.mpslp_types.specs.{Limit.limit_of, declared.kinds.Limit.{Limit, TheVariants.{Finite, MinusInf, PlusInf}}}
use Rattle.mpslp_model_core.specs.Model.{Row}
use Rattle.mpslp_model_core.specs.Limits.{RowDefinition, by_limits, has_infinite_rhs, is_declared_integer, no_side_declared}
use Rattle.mpslp_model_core.specs.RowForms.{is_plain}
use Rattle.mpslp_model_core.specs.declared.bounds.DeclaredColumn.{DeclaredColumn}
use Rattle.mpslp_model_core.specs.Views.{letter_E, row_range, row_sense}
use Rattle.mpslp_model_core.specs.WrongParts.{are_faulty_bounds, is_inexact, is_too_large, is_crossed, is_large_limit, is_faulty_row}

given_small : (b : Number) → is_large_limit (limit_of b) ≡ false
given_small = grind arith

-- whether limits have an error
abbrev has_fault : Row → Bool
has_fault row = is_inexact (Some row) || (is_too_large (Some row) || is_crossed (Some row))

only_upper : (l : Limit) → is_large_limit l ≡ false → has_fault (record { lower = MinusInf; upper = l }) ≡ false
only_upper = grind arith

only_lower : (l : Limit) → is_large_limit l ≡ false → has_fault (record { lower = l; upper = PlusInf }) ≡ false
only_lower = grind arith

pub difference_itself : (d : Number) → difference_of d d ≡ Some zero_number
difference_itself = grind arith

both_same : (l : Limit) → is_large_limit l ≡ false → has_fault (record { lower = l; upper = l }) ≡ false
both_same = grind (arith, difference_itself, int_cmp_total)

-- a row with two equal limits
pub same_faulty : (d : Number) (b : Number) (r : Option Number) →
    is_large_limit (Finite d) ≡ is_faulty_row (by_limits (Finite d) (Finite d)) b r
same_faulty = grind (arith, difference_itself, int_cmp_total)

pub letter_same : (d : Number) → letter_E ≡ row_sense (record { lower = Finite d; upper = Finite d })
letter_same = grind (arith, int_cmp_total)

pub range_same : (d : Number) → zero_number ≡ row_range (record { lower = Finite d; upper = Finite d })
range_same d = ap (λ r. unwrap_or r zero_number) (sym (difference_itself d))

or_false : (b : Bool) → b ≡ (b || false)
or_false = grind arith

pub plain_faulty : (definition : RowDefinition) (b : Number) (r : Option Number) → is_plain definition r ≡ true
    → has_infinite_rhs definition b r ≡ is_faulty_row definition b r
plain_faulty = grind (arith, or_false, only_upper, given_small, only_lower, both_same)

-- ---- a column without a declared bound

-- what is declared of it
abbrev unbounded : Bool → Bool → Bool → Bool → DeclaredColumn
unbounded marked integer binary semi =
    record { lower = None; upper = None; marked = marked; integer = integer; binary = binary; semi = semi }

unbounded_faulty : (m i b s : Bool) → (s && not (m || (i || b))) ≡ are_faulty_bounds (unbounded m i b s)
unbounded_faulty true true true true = refl
unbounded_faulty true true true false = refl
unbounded_faulty true true false true = refl
unbounded_faulty true true false false = refl
unbounded_faulty true false true true = refl
unbounded_faulty true false true false = refl
unbounded_faulty true false false true = refl
unbounded_faulty true false false false = refl
unbounded_faulty false true true true = refl
unbounded_faulty false true true false = refl
unbounded_faulty false true false true = refl
unbounded_faulty false true false false = refl
unbounded_faulty false false true true = refl
unbounded_faulty false false true false = refl
unbounded_faulty false false false true = refl
unbounded_faulty false false false false = refl

-- only one that is semi-continuous has an error: its upper bound is infinite
pub no_side_faulty : (d : DeclaredColumn) → no_side_declared d ≡ true →
    (d.semi && not (is_declared_integer d)) ≡ are_faulty_bounds d
no_side_faulty d none = by d.lower d.upper none
  where
    by : (lower upper : Option Limit) → (is_none lower && is_none upper) ≡ true → (d.semi && not (is_declared_integer d))
        ≡ are_faulty_bounds (record {
          lower = lower;
          upper = upper;
          marked = d.marked;
          integer = d.integer;
          binary =
              d.binary;
          semi = d.semi;
        })
    by None None none = unbounded_faulty d.marked d.integer d.binary d.semi
    by (Some x) upper none = absurd cc
    by None (Some x) none = absurd cc
