-- The bytes that a source gave, one piece after another.
use Rattle.std.proofs.{Common.{◌≡◌, ℕ, ◌+◌, ◌≤◌, List, ◌++◌, Option, length, arith}, lemmas.List.{length-append}, KnownBytes.{Consumes-trans}}
use Rattle.std.specs.Io.KnownBytes.{Consumes}
use Rattle.mpslp_conversions.specs.Runs.{TakesAtMost}

-- one more piece was taken
TakesAtMost-more : (first old new : Option (List ℕ)) (bytes piece : List ℕ) (most : ℕ) → Consumes first old bytes
    → Consumes old new piece → length bytes + length piece ≤ most → TakesAtMost most first new
TakesAtMost-more first old new bytes piece most before now within =
    (bytes ++ piece, omega (arith, length-append bytes piece), Consumes-trans first old new bytes piece before now)

-- a source was asked for one byte more than it may have left at most
pub TakesAtMost-then : (first old new : Option (List ℕ)) (bytes : List ℕ) (room limit : ℕ) → Consumes first old bytes
    → length bytes + room ≡ limit → TakesAtMost (room + 1) old new → TakesAtMost (limit + 1) first new
TakesAtMost-then first old new bytes room limit before counted asked =
    TakesAtMost-more first old new bytes asked.0 (limit + 1) before asked.2 (omega (arith, counted, asked.1))
