-- Lines that are printed for one entry after another.
use Rattle.std.specs.Prelude.{ℕ, List, [], slice_get}
use Rattle.std.specs.Option.{option_map_or}

-- the lines of the entry with this number, if there is one
abbrev pub lines_at : {X L : Type 0} → (X → List L) → List X → ℕ → List L
lines_at lines_of entries i = option_map_or lines_of (slice_get entries i) []
