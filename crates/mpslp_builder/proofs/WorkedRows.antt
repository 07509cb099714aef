-- Worked examples: limits of rows, by computation.
use Rattle.mpslp_builder.proofs.Prelude
use Prelude.{◌≡◌, refl, Bool, true, false, ℤ, pos, negsuc, Option, Some, None, List, [], ◌∷◌, map, Number, Row, RowType, by_type, by_limits}
use Prelude.{limits_of, has_infinite_rhs, is_inexact, is_too_large, is_crossed, Limit, MinusInf, Finite, PlusInf, Free, AtMost, AtLeast}
use Rattle.mpslp_decimal.specs.Decimal.{trailing_zeros}
use Rattle.mpslp_types.specs.declared.kinds.RowType.TheVariants.{Equal}

abbrev pub number : ℤ → ℤ → Number
number m e = record { mantissa = m; exponent = e }

abbrev pub whole : ℤ → Number
whole m = record { mantissa = m; exponent = pos 0 }

abbrev row : Limit → Limit → Option Row
row lower upper = Some (record { lower = lower; upper = upper })

abbrev between : Number → Number → Option Row
between lower upper = row (Finite lower) (Finite upper)

abbrev ten : Number
ten = number (pos 1) (pos 1)

-- the type of a row, its right-hand side, its range and its limits
abbrev limited : List (RowType × Number × Option Number × Option Row)
limited =
    (Free, whole (pos 7), None, row MinusInf PlusInf) ∷
    (AtMost, whole (pos 7), None, row MinusInf (Finite (whole (pos 7)))) ∷
    (AtLeast, whole (pos 7), None, row (Finite (whole (pos 7))) PlusInf) ∷
    (Equal, whole (pos 7), None, between (whole (pos 7)) (whole (pos 7))) ∷
    (Equal, ten, Some (whole (pos 3)), between ten (whole (pos 13))) ∷
    (Equal, ten, Some (whole (negsuc 2)), between (whole (pos 7)) ten) ∷
    (Equal, ten, Some (whole (pos 0)), between ten ten) ∷
    (AtLeast, ten, Some (whole (negsuc 1)), between ten (whole (pos 12))) ∷
    (AtMost, ten, Some (whole (negsuc 1)), between (whole (pos 8)) ten) ∷
    -- right-hand sides of infinite magnitude, and the greatest that is finite
    (AtMost, number (pos 1) (pos 20), None, row MinusInf PlusInf) ∷
    (AtMost, number (pos 99) (pos 18), None, row MinusInf (Finite (number (pos 99) (pos 18)))) ∷
    (AtLeast, number (negsuc 0) (pos 20), None, row MinusInf PlusInf) ∷
    []

pub limited-right : map (λ row. limits_of (by_type row.0) row.1 row.2) limited ≡ map (λ row. row.3) limited
unfolding trailing_zeros
limited-right = refl

abbrev tested : List (Bool × Bool)
tested =
    -- an infinite right-hand side may be that of a row that it does not limit, and that has no range
    (has_infinite_rhs (by_type AtMost) (number (pos 1) (pos 20)) None, false) ∷
    (has_infinite_rhs (by_type AtMost) (number (pos 1) (pos 20)) (Some (whole (pos 1))), true) ∷
    (has_infinite_rhs (by_type AtMost) (number (negsuc 0) (pos 20)) None, true) ∷
    (has_infinite_rhs (by_type AtLeast) (number (pos 1) (pos 20)) None, true) ∷
    (has_infinite_rhs (by_type Equal) (number (negsuc 0) (pos 20)) None, true) ∷
    -- limits that no model has, and some that it may have
    (is_inexact (between (number (pos 1) (negsuc 9)) (number (pos 1) (pos 19))), false) ∷
    (is_inexact (between (number (pos 1) (negsuc 19)) (number (pos 1) (pos 19))), true) ∷
    (is_inexact (limits_of (by_type AtLeast) (number (pos 1) (pos 19)) (Some (number (pos 1) (negsuc 19)))), true) ∷
    (is_too_large (between (number (negsuc 8) (pos 19)) (number (pos 9) (pos 19))), true) ∷
    (is_too_large (limits_of (by_type AtLeast) (number (pos 9) (pos 19)) (Some (number (pos 9) (pos 19)))), true) ∷
    (is_crossed (limits_of (by_limits (Finite (whole (pos 5))) (Finite (whole (pos 3)))) (whole (pos 0)) None), true) ∷
    (is_crossed (between (whole (pos 3)) (whole (pos 3))), false) ∷
    []

pub tested-right : map (λ test. test.0) tested ≡ map (λ test. test.1) tested
unfolding trailing_zeros
tested-right = refl
