-- The bounds of a column follow from the printed ones and the defaults, the limits of a row from its type, right-hand side and range.
use Rattle.mpslp_builder.proofs.Prelude
use Prelude.{arith, ◌≡◌, List, ℕ, Bool, true, false, Option, Some, None, is_none, unwrap_or, ◌&&◌, if◌then◌else◌, Number, is_zero}
use Prelude.{zero_number, Column, is_lower_side, is_upper_side, zero_limit, one_limit, lower_bound, upper_bound, column_of, Draft, at_name}
use Prelude.{has_name, is_integer, is_semi, Kind, Continuous, Integer, Semi, Limit, MinusInf, Finite, PlusInf, refl, cond, option_map_or}
use Prelude.{second_so, IsDecimal, size_of, difference_of, have_same_value, are_sides, is_at_most, is_bounded_decimal, has_bounded_distance}
use Prelude.{limits_of, plain_limits, by_type, RowType, Free, AtMost, AtLeast, sum-difference, same_decimal, difference_size}
use Rattle.mpslp_types.specs.declared.kinds.RowType.TheVariants.{Equal}

-- ---- the bounds of a column follow from the printed ones and the defaults

abbrev pub is_integer_kind : Kind → Bool
is_integer_kind Integer = true
is_integer_kind Continuous = false
is_integer_kind Semi = false

abbrev pub is_semi_kind : Kind → Bool
is_semi_kind Semi = true
is_semi_kind Continuous = false
is_semi_kind Integer = false

-- a lower bound, printed unless it is the default
abbrev pub unless_zero : Number → Option Limit
unless_zero d = if is_zero d then None else Some (Finite d)

-- the bounds that the canonical lines declare: FR and FX both, MI and LO the lower, UP, PL and SC the upper. A semi-continuous
-- column has no FX
abbrev pub fixed : Kind → (Number → Number → Bool) → Number → Number → Bool
fixed Semi same l u = false
fixed _ same l u = same l u

abbrev pub lower_stated : Kind → Limit → Limit → (Number → Number → Bool) → Option Limit
lower_stated kind MinusInf _ same = Some MinusInf
lower_stated kind (Finite l) (Finite u) same = if fixed kind same l u then Some (Finite u) else unless_zero l
lower_stated kind (Finite l) _ same = unless_zero l
lower_stated kind PlusInf _ same = None

-- an upper bound: plus infinity is printed if both bounds are infinite, and for integer columns
abbrev pub upper_stated : Kind → Limit → Limit → Option Limit
upper_stated kind _ (Finite u) = Some (Finite u)
upper_stated kind MinusInf PlusInf = Some PlusInf
upper_stated Integer _ PlusInf = Some PlusInf
upper_stated Continuous _ PlusInf = None
upper_stated Semi _ PlusInf = None
upper_stated kind _ MinusInf = None

-- the column follows from its type and bounds
pub column_of-is : (all : Draft) (name : List ℕ) (column : Column) → is_integer all name ≡ is_integer_kind column.kind →
    is_semi all name ≡ is_semi_kind column.kind → lower_bound all name ≡ column.lower →
    upper_bound all name ≡ column.upper → column_of all name ≡ column
column_of-is = grind arith

-- ---- what canonical MPS text says about a column

module _ (same : Number → Number → Bool) where
  -- a lower bound follows from what is printed and the default
  pub lower_back : (kind : Kind) (l u : Limit) → is_lower_side l ≡ true →
      ((a b : Number) → l ≡ Finite a → u ≡ Finite b → same a b ≡ true → a ≡ b) →
      ((a : Number) → l ≡ Finite a → is_zero a ≡ true → a ≡ zero_number) →
      unwrap_or (lower_stated kind l u same) zero_limit ≡ l
  lower_back = grind arith

  -- the default is 1 only for a marked column without a printed bound
  pub upper_back : (kind : Kind) (l u : Limit) → is_upper_side u ≡ true → unwrap_or (upper_stated kind l u)
      (if is_integer_kind kind && (is_none (lower_stated kind l u same) && is_none (upper_stated kind l u))
      then one_limit else PlusInf) ≡ u
  upper_back = grind arith

  -- a draft with these bounds of a column, and its mark or its semi-continuous type, gives the column back
  pub column_back : (all : Draft) (name : List ℕ) (column : Column) →
      at_name all.lowers name ≡ lower_stated column.kind column.lower column.upper same →
      at_name all.uppers name ≡ upper_stated column.kind column.lower column.upper →
      has_name all.marked name ≡ is_integer_kind column.kind → has_name all.integers name ≡ false →
      has_name all.binaries name ≡ false → has_name all.semis name ≡ is_semi_kind column.kind →
      is_lower_side column.lower ≡ true → is_upper_side column.upper ≡ true →
      ((a b : Number) → column.lower ≡ Finite a → column.upper ≡ Finite b → same a b ≡ true → a ≡ b)
      → ((a : Number) → column.lower ≡ Finite a → is_zero a ≡ true → a ≡ zero_number) → column_of all name ≡ column
  column_back = grind (arith, column_of-is, lower_back, upper_back)

-- ---- the limits of a row follow from its type, right-hand side and range

abbrev pub printed_type : Limit → Limit → RowType
printed_type (Finite a) (Finite b) = if have_same_value a b then Equal else AtLeast
printed_type (Finite a) _ = AtLeast
printed_type _ (Finite b) = AtMost
printed_type _ _ = Free

abbrev pub printed_side : Limit → Limit → Number
printed_side (Finite a) _ = a
printed_side _ (Finite b) = b
printed_side _ _ = zero_number

abbrev pub printed_range : Limit → Limit → Option Number
printed_range (Finite a) (Finite b) = if have_same_value a b then None else difference_of b a
printed_range _ _ = None

-- a value that is printed unless it is 0
pub side-stated : (d : Number) → (is_zero d ≡ true → d ≡ zero_number) →
    unwrap_or (if is_zero d then None else Some d) zero_number ≡ d
side-stated = grind arith

same_values : (a b : Number) → have_same_value a b ≡ true → is_bounded_decimal a ≡ true → a ≡ b
    → Some (plain_limits Equal a) ≡ Some (record { lower = Finite a; upper = Finite b })
same_values = grind arith

apart_values : (a b : Number) (distance : Option Number) → difference_of b a ≡ distance →
    option_map_or is_bounded_decimal distance false ≡ true → IsDecimal a → IsDecimal b →
    ((d : Number) → difference_of b a ≡ Some d → size_of d ≡ d) →
    limits_of (by_type AtLeast) a distance ≡ Some (record { lower = Finite a; upper = Finite b })
apart_values = grind (arith, sum-difference)

-- The limits of a row, if they are well-formed, are those of the printed type, right-hand side and range.
pub row_back : (lower upper : Limit) → are_sides lower upper ≡ true → has_bounded_distance lower upper ≡ true → limits_of (by_type
    (printed_type lower upper)) (printed_side lower upper) (printed_range lower upper) ≡ Some
    (record { lower = lower; upper = upper })
row_back MinusInf (Finite b) h w = grind arith
row_back MinusInf PlusInf h w = refl
row_back (Finite a) MinusInf h w = grind (arith)
row_back (Finite a) PlusInf h w = grind arith
row_back (Finite a) (Finite b) h w = by _ refl
  where
    good_a : is_bounded_decimal a ≡ true
    good_a = grind arith

    rest : (is_bounded_decimal b && is_at_most (Finite a) (Finite b)) ≡ true
    rest = second_so (is_bounded_decimal a) _ h

    dec_a : IsDecimal a
    dec_a = grind arith

    dec_b : IsDecimal b
    dec_b = grind (arith, rest)

    by : (t : Bool) → have_same_value a b ≡ t → limits_of (by_type (cond t Equal AtLeast)) a (cond t None (difference_of b a))
        ≡ Some (record { lower = Finite a; upper = Finite b })
    by true e = same_values a b e good_a (same_decimal a b dec_a dec_b e)
    by false e = apart_values a b _ refl w dec_a dec_b
        (λ d is. difference_size a b d (second_so (is_bounded_decimal b) _ rest) is)
row_back _ _ h w = cc
