-- What is known of the pairs of a row and a column that have a coefficient, beside the log of these.
use Rattle.std.specs.Prelude.{◌≡◌, ◌<◌, ◌≤◌, ◌*◌, ◌+◌, ℕ, suc, Bool, true, false, List, Option, Some, None, ◌⊎◌, is_some, length, slice_index}
use Rattle.std.specs.Option.{IfSome}
use Rattle.std.specs.Ordering.{nat_cmp}
use Rattle.std.specs.FinMap.{find}
use Rattle.std.specs.BTreeSet.{BTreeSet, contains, IsUnchanged}
use Rattle.mpslp_model_core.specs.Numbered.{IsOnceBy}
use Rattle.mpslp_builder_parts.specs.CoefficientLog.{LogEntries, chain, IsLog}
use Rattle.mpslp_builder_parts.specs.Grouping.{HaveNumbers}
use Rattle.mpslp_builder_parts.specs.declared.known_pairs.Told.{Told}
use Rattle.mpslp_builder_parts.specs.declared.known_pairs.Told.TheVariants.{There, Free, Nothing}

-- whether there is a coefficient of a row in the chain that begins at the place of a column
abbrev pub has_pair : LogEntries → (ℕ → ℕ) → ℕ → ℕ → Bool
has_pair log last column row = is_some (find nat_cmp row (chain log (last column)))

-- what is told of a pair is so
abbrev pub IsTold : Told → Bool → Type 0
IsTold There has = has ≡ true
IsTold Free has = has ≡ false
IsTold Nothing has = Unit {0}

-- a pair as one number
abbrev pub pair_key : ℕ → ℕ → ℕ
pair_key column row = column * 4294967296 + row

abbrev pub in_pairs : BTreeSet ℕ → ℕ → ℕ → Bool
in_pairs pairs column row = contains nat_cmp pairs (pair_key column row)

-- one more pair is in the set
pub record IsPairPut (column row : ℕ) (old new : BTreeSet ℕ) : Type 0 where
  pub here : in_pairs new column row ≡ true
  pub others : (i r : ℕ) → r < 4294967296 → (i ≡ column → r ≡ row → ⊥) → in_pairs new i r ≡ in_pairs old i r

-- where there is a set
abbrev pub IsPutIfSome : ℕ → ℕ → Option (BTreeSet ℕ) → Option (BTreeSet ℕ) → Type 0
IsPutIfSome column row (Some old) (Some new) = IsPairPut column row old new
IsPutIfSome column row None None = Unit {0}
IsPutIfSome column row _ _ = ⊥

abbrev pub IsSameIfSome : Option (BTreeSet ℕ) → Option (BTreeSet ℕ) → Type 0
IsSameIfSome (Some old) (Some new) = IsUnchanged old new
IsSameIfSome None None = Unit {0}
IsSameIfSome _ _ = ⊥

-- The place and the row of the last coefficient of each column, and the column of the last one of each row, counted from 1. The open
-- row is one of which all coefficients are the last ones of their columns, and the open column one of which all are the last ones of
-- their rows. All pairs are in a set once that was made.
pub record AreKnown (all : LogEntries) (last row : ℕ → ℕ) (stamps : List ℕ) (open_row open_column : Option ℕ) (set : Option (BTreeSet ℕ)) : Type 0 where
  pub log : IsLog all
  pub within : (i : ℕ) → last i ≤ length all.cells
  pub once : (i : ℕ) → IsOnceBy nat_cmp (chain all (last i))
  pub own : (i : ℕ) → 0 < last i → has_pair all last i (row i) ≡ true
  pub empty : (r : ℕ) → slice_index stamps r ≡ 0 → (i : ℕ) → has_pair all last i r ≡ false
  pub stamped : (r i : ℕ) → slice_index stamps r ≡ suc i → has_pair all last i r ≡ true
  pub by_row : (r : ℕ) → open_row ≡ Some r → (i : ℕ) → has_pair all last i r ≡ true → row i ≡ r
  pub by_column : (i : ℕ) → open_column ≡ Some i → (r : ℕ) → has_pair all last i r ≡ true → slice_index stamps r ≡ suc i
  pub columns : HaveNumbers all.earlier last
  pub pairs : IfSome set (λ pairs. (i r : ℕ) → i < 4294967295 → r < 4294967296 → in_pairs pairs i r ≡ has_pair all last i r)

-- how an open row or column is chosen: it stays, or it had no coefficient before, or there is none
abbrev pub IsOpened : Option ℕ → Option ℕ → ℕ → Type 0 → Type 0
IsOpened before after number had_none = (after ≡ None) ⊎ ((after ≡ Some number) × ((before ≡ Some number) ⊎ had_none))
