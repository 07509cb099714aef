-- The coefficients of all columns in one log, in the order in which they were put. Those of a column are a chain: beside each is the
-- place of the one before it in its column. Places count from 1, and 0 is the end of a chain.
use Rattle.std.specs.Prelude.{◌≡◌, ◌≤◌, ℕ, zero, suc, List, [], ◌∷◌, length, slice_get, slice_index}
use Rattle.std.specs.Option.{option_map_or}
use Rattle.mpslp_decimal.specs.Decimal.{Number}

pub record LogEntries : Type 0 where
  pub cells : List (ℕ × Number)
  pub earlier : List ℕ

-- the coefficients from a place on, at most so many, the latest first
abbrev pub chain_from : LogEntries → ℕ → ℕ → List (ℕ × Number)
chain_from log zero place = []
chain_from log (suc most) zero = []
chain_from log (suc most) (suc index) = option_map_or (λ cell. cell ∷ chain_from log most (slice_index log.earlier index)) (slice_get log.cells index) []

-- all of them: each place is below the one before
abbrev pub chain : LogEntries → ℕ → List (ℕ × Number)
chain log place = chain_from log place place

-- there is a place beside each coefficient, and it is a lower one
pub record IsLog (log : LogEntries) : Type 0 where
  pub len : length log.earlier ≡ length log.cells
  pub below : (index : ℕ) → slice_index log.earlier index ≤ index
