-- Items that are swapped together with numbers beside them.
use Rattle.std.specs.Prelude.{◌≡◌, ◌<◌, ℕ, List, length, slice_index, slice_index_or}

-- the item that was at an index is at one now
pub record IsThere {X : Type 0} (all : List X) (wanted : List ℕ) (items : List X) (places : List ℕ) (i : ℕ) : Type 0 where
  pub index : ℕ
  pub below : index < length all
  pub place : slice_index places index ≡ slice_index wanted i
  pub item : (d : X) → slice_index_or items index d ≡ slice_index_or all i d

-- the items and their places are in another order, in which the first ones are at their places
pub record AreSwapped {X : Type 0} (all : List X) (wanted : List ℕ) (done : ℕ) (items : List X) (places : List ℕ) : Type 0 where
  pub len : length items ≡ length all
  pub places_len : length places ≡ length all
  pub within : (i : ℕ) → i < length all → slice_index places i < length all
  pub apart : (i j : ℕ) → i < length all → j < length all → slice_index places i ≡ slice_index places j → i ≡ j
  pub home : (i : ℕ) → i < done → slice_index places i ≡ i
  pub there : (i : ℕ) → i < length all → IsThere all wanted items places i
