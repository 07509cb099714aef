-- How contracts see the devices that fail at a chosen place.
use Rattle.std.specs.Prelude.{ℕ, List, Bool}

-- A reader: the remaining bytes, the maximum that a read returns, the number of the read that fails (0 for none), whether it
-- has failed, and how often it was read.
pub record Giving : Type 0 where
  pub left : List ℕ
  pub piece : ℕ
  pub fail_at : ℕ
  pub has_failed : Bool
  pub calls : ℕ

-- A writer: the bytes that it took, how many more it takes, whether it has failed, and how often it was called.
pub record Taking : Type 0 where
  pub taken : List ℕ
  pub room : ℕ
  pub has_failed : Bool
  pub calls : ℕ
