-- When two limits, rows, columns or objectives are the same.
use Rattle.std.specs.Prelude.{◌≡◌, ℕ, Bool, true, false, ◌&&◌, List, Option, slice_get}
use Rattle.std.specs.Option.{option_map, option_and_then}
use Rattle.std.specs.Ordering.{int_eq}
use Rattle.std.specs.Bool.{nat_eq}
use Rattle.std.specs.Cmp.Lexicographic.{pointwise}
use Rattle.mpslp_decimal.specs.Decimal.{Number}
use Rattle.mpslp_types.specs.Name.{same_bytes}
use Rattle.mpslp_model_core.specs.Model.{Row, Column, LinearModel}
use Rattle.mpslp_types.specs.declared.kinds.Kind.{Kind}
use Rattle.mpslp_types.specs.declared.kinds.Kind.TheVariants.{Continuous, Integer, Semi}
use Rattle.mpslp_types.specs.declared.kinds.Limit.{Limit}
use Rattle.mpslp_types.specs.declared.kinds.Limit.TheVariants.{MinusInf, Finite, PlusInf}

abbrev pub same_number : Number → Number → Bool
same_number a b = int_eq a.mantissa b.mantissa && int_eq a.exponent b.exponent

abbrev pub same_limit : Limit → Limit → Bool
same_limit MinusInf MinusInf = true
same_limit MinusInf (Finite b) = false
same_limit MinusInf PlusInf = false
same_limit (Finite a) MinusInf = false
same_limit (Finite a) (Finite b) = same_number a b
same_limit (Finite a) PlusInf = false
same_limit PlusInf MinusInf = false
same_limit PlusInf (Finite b) = false
same_limit PlusInf PlusInf = true

abbrev pub same_kind : Kind → Kind → Bool
same_kind Continuous Continuous = true
same_kind Continuous Integer = false
same_kind Continuous Semi = false
same_kind Integer Continuous = false
same_kind Integer Integer = true
same_kind Integer Semi = false
same_kind Semi Continuous = false
same_kind Semi Integer = false
same_kind Semi Semi = true

abbrev pub same_row : Row → Row → Bool
same_row a b = same_limit a.lower b.lower && same_limit a.upper b.upper

abbrev pub same_column : Column → Column → Bool
same_column a b = same_kind a.kind b.kind && (same_limit a.lower b.lower && same_limit a.upper b.upper)

-- a coefficient by its number and its value
abbrev pub same_cell : ℕ × Number → ℕ × Number → Bool
same_cell a b = nat_eq a.0 b.0 && same_number a.1 b.1

-- a column, with its name and its coefficients
abbrev pub same_column_with : Column × List (ℕ × Number) → Column × List (ℕ × Number) → Bool
same_column_with a b = same_column a.0 b.0 && pointwise same_cell a.1 b.1

abbrev pub same_named_column : List ℕ × (Column × List (ℕ × Number)) → List ℕ × (Column × List (ℕ × Number)) → Bool
same_named_column a b = same_bytes a.0 b.0 && same_column_with a.1 b.1

-- whether the columns at an index are the same, if there is one in each list
abbrev pub same_at : ℕ → List (List ℕ × (Column × List (ℕ × Number))) → List (List ℕ × (Column × List (ℕ × Number))) → Option Bool
same_at j own other = option_and_then (λ a. option_map (λ b. same_named_column a b) (slice_get other j)) (slice_get own j)

-- sense, objective name and constant of two models are the same
abbrev pub IsSameObjective : LinearModel → LinearModel → Type 0
IsSameObjective m n = (m.sense ≡ n.sense) × (m.objective ≡ n.objective) × (m.constant ≡ n.constant)
