-- Coefficients grouped by the numbers of their columns.
use Rattle.std.specs.Prelude.{◌≡◌, ◌≤◌, ◌<◌, ◌+◌, ℕ, zero, suc, Bool, true, false, List, [], ◌∷◌, length, take, drop, reverse, slice_index, slice_range, if◌then◌else◌}
use Rattle.std.specs.Ordering.{nat_cmp, eq_by_cmp}
use Rattle.mpslp_decimal.specs.Decimal.{Number}
use Rattle.mpslp_builder_parts.specs.CoefficientLog.{LogEntries, chain}
use Rattle.mpslp_builder_parts.specs.declared.known_pairs.StoredColumn.{StoredColumn}

-- ---- numbers in a list

-- the last place in a list, from the last one after its first item, or 0, and whether that item counts
abbrev pub place_after : Bool → ℕ → ℕ
place_after here (suc place) = suc (suc place)
place_after true zero = 1
place_after false zero = 0

-- the place of the last of the numbers that is this one, counted from 1, or 0 if none is
abbrev pub last_place : ℕ → List ℕ → ℕ
last_place n [] = 0
last_place n (m ∷ ms) = place_after (eq_by_cmp nat_cmp n m) (last_place n ms)

-- how many of the numbers are this one
abbrev pub times : ℕ → List ℕ → ℕ
times n [] = 0
times n (m ∷ ms) = if eq_by_cmp nat_cmp n m then suc (times n ms) else times n ms

-- how many are below it
abbrev pub times_below : ℕ → List ℕ → ℕ
times_below zero ms = 0
times_below (suc n) ms = times_below n ms + times n ms

-- the items whose number is this one
abbrev pub items_of : {X : Type 0} → ℕ → List ℕ → List X → List X
items_of n [] xs = []
items_of n (m ∷ ms) [] = []
items_of n (m ∷ ms) (x ∷ xs) = if eq_by_cmp nat_cmp n m then x ∷ items_of n ms xs else items_of n ms xs

-- where the item at an index is once all are grouped by their numbers, each group in its former order
abbrev pub group_place : List ℕ → ℕ → ℕ
group_place ms i = times_below (slice_index ms i) ms + times (slice_index ms i) (take i ms)

-- ---- the columns of a log

-- The numbers of the columns of all coefficients. Beside each is the place of the one before it that has the same number.
pub record AreChained (earlier : List ℕ) (last : ℕ → ℕ) (numbers : List ℕ) : Type 0 where
  pub len : length numbers ≡ length earlier
  pub links : (i : ℕ) → i < length numbers → slice_index earlier i ≡ last_place (slice_index numbers i) (take i numbers)
  pub lasts : (n : ℕ) → last n ≡ last_place n numbers

-- there are such numbers
pub record HaveNumbers (earlier : List ℕ) (last : ℕ → ℕ) : Type 0 where
  pub numbers : List ℕ
  pub chained : AreChained earlier last numbers

-- the place of each coefficient once all are grouped by their columns, and where the group of each of so many columns ends
pub record ArePlaced (earlier : List ℕ) (last : ℕ → ℕ) (count : ℕ) (places ends : List ℕ) : Type 0 where
  pub numbers : List ℕ
  pub chained : AreChained earlier last numbers
  pub below : (i : ℕ) → i < length numbers → slice_index numbers i < count
  pub len : length places ≡ length numbers
  pub each : (i : ℕ) → i < length numbers → slice_index places i ≡ group_place numbers i
  pub ends_len : length ends ≡ count
  pub end_of : (n : ℕ) → n < count → slice_index ends n ≡ times_below (suc n) numbers

-- the coefficients of a column, which are between two indices
pub record HasGroup (log : LogEntries) (cells : List (ℕ × Number)) (start end last : ℕ) : Type 0 where
  pub order : start ≤ end
  pub room : end ≤ length cells
  pub own : chain log last ≡ reverse (slice_range cells start end)

-- from an index on, they are those of one column after another, which end at these indices
abbrev pub AreGrouped : LogEntries → List (ℕ × Number) → ℕ → List ℕ → List (List ℕ × StoredColumn) → Type 0
AreGrouped log cells start ends [] = start ≡ length cells
AreGrouped log cells start ends (column ∷ columns) =
    HasGroup log cells start (slice_index ends 0) column.1.last × AreGrouped log cells (slice_index ends 0) (drop 1 ends) columns
