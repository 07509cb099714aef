-- Rows and columns by number, in any order, and the coefficients of each column by row number.
use Rattle.std.specs.Prelude.{◌≡◌, ℕ, zero, suc, Bool, List, [], ◌∷◌, ◌++◌, Option, Some, None, is_some, slice_get, slice_index, map, filter, not}
use Rattle.std.specs.List.{list_all}
use Rattle.std.specs.Option.{option_map, option_map_or}
use Rattle.std.specs.Ordering.{nat_cmp}
use Rattle.std.specs.FinMap.{find, put}
use Rattle.std.specs.declared.cmp.Ordering.{Ordering}
use Rattle.mpslp_decimal.specs.Decimal.{Number, is_zero}
use Rattle.mpslp_types.specs.Name.{bytes_cmp}
use Rattle.mpslp_model_core.specs.Model.{CoefficientKey}

-- the entries, sorted by key; of two with the same key the earlier one is kept
abbrev pub sorted_of : {K X : Type 0} → (K → K → Ordering) → List (K × X) → List (K × X)
sorted_of R [] = []
sorted_of R (e ∷ es) = put R e.0 e.1 (sorted_of R es)

-- ---- the parts of a map's entries by name

module _ {V X : Type 0} where
  -- a part of each
  abbrev pub each_part : (V → X) → List (List ℕ × V) → List (List ℕ × X)
  each_part f [] = []
  each_part f (e ∷ es) = (e.0, f e.1) ∷ each_part f es

  -- the parts that are given
  abbrev pub given_parts : (V → Option X) → List (List ℕ × V) → List (List ℕ × X)
  given_parts f [] = []
  given_parts f (e ∷ es) = option_map_or (λ x. (e.0, x) ∷ given_parts f es) (f e.1) (given_parts f es)

-- ---- rows by numbers

-- the objective has the number 0, and the rows have the numbers from 1
abbrev pub name_of : {V : Type 0} → Option (List ℕ) → List (List ℕ × V) → ℕ → Option (List ℕ)
name_of objective rows zero = objective
name_of objective rows (suc i) = option_map (λ e. e.0) (slice_get rows i)

-- different numbers are those of different rows
abbrev pub IsInjective : (ℕ → Option (List ℕ)) → Type 0
IsInjective name = (n m : ℕ) (r : List ℕ) → name n ≡ Some r → name m ≡ Some r → n ≡ m

-- all keys are distinct
abbrev pub IsOnceBy : {K X : Type 0} → (K → K → Ordering) → List (K × X) → Type 0
IsOnceBy R [] = Unit {0}
IsOnceBy R (e ∷ es) = (find R e.0 es ≡ None) × IsOnceBy R es

-- all names are distinct
abbrev pub IsOnce : {X : Type 0} → List (List ℕ × X) → Type 0
IsOnce es = IsOnceBy bytes_cmp es

-- ---- coefficients by row number

-- whether it is nonzero
abbrev pub is_kept : {K : Type 0} → K × Number → Bool
is_kept e = not (is_zero e.1)

-- The coefficients of a column with the final numbers of their rows, in the order of these; zeros are left out.
abbrev pub moved_cells : List ℕ → List (ℕ × Number) → List (ℕ × Number)
moved_cells ranks cells = filter is_kept (sorted_of nat_cmp (map (λ e. (slice_index ranks e.0, e.1)) cells))

-- the coefficients of a column whose rows have names
abbrev pub column_cells : (ℕ → Option (List ℕ)) → List ℕ → List (ℕ × Number) → List (CoefficientKey × Number)
column_cells name column [] = []
column_cells name column (e ∷ es) =
    option_map_or (λ row. (record { row = row; column = column }, e.1) ∷ column_cells name column es) (name e.0) (column_cells name column es)

abbrev pub all_cells : (ℕ → Option (List ℕ)) → List (List ℕ × List (ℕ × Number)) → List (CoefficientKey × Number)
all_cells name [] = []
all_cells name (c ∷ cs) = column_cells name c.0 c.1 ++ all_cells name cs

-- the number of each coefficient is that of a row or of the objective
abbrev pub all_named : (ℕ → Option (List ℕ)) → List (List ℕ × List (ℕ × Number)) → Bool
all_named name cols = list_all (λ c. list_all (λ e. is_some (name e.0)) c.1) cols
