-- What lines of RHS and RANGES declare, in terms of their rows and values.
use Rattle.std.specs.Prelude.{◌≡◌, ℕ, true, false, List, ◌++◌, map, None}
use Rattle.std.specs.List.{flat_map}
use Rattle.mpslp_decimal.specs.Decimal.{Number}
use Rattle.mpslp_builder.specs.Declaration.{declare_range, Declarations, Draft, has_name, has_row, is_free_row, rhs_declared}

-- the right-hand sides of two rows
abbrev pub rhs_pair_declared : Draft → List ℕ × Number → List ℕ × Number → Declarations
rhs_pair_declared earlier first second = rhs_declared earlier first.0 first.1 ++ rhs_declared earlier second.0 second.1

-- the right-hand sides of rows, and their ranges
abbrev pub rhs_values_declared : Draft → List (List ℕ × Number) → Declarations
rhs_values_declared earlier values = flat_map (λ value. rhs_declared earlier value.0 value.1) values

abbrev pub ranges_of : List (List ℕ × Number) → Declarations
ranges_of values = map (λ value. declare_range value.0 value.1) values

-- Right-hand sides as MPS text declares them: only of declared rows that are not of type N. Constants are not declared.
pub record HasMpsSides (all : Draft) : Type 0 where
  pub known : (row : List ℕ) → has_name all.rhs_values row ≡ true → has_row all row ≡ true
  pub limited : (row : List ℕ) → is_free_row all row ≡ true → has_name all.rhs_values row ≡ false
  pub constant : all.constant ≡ None
