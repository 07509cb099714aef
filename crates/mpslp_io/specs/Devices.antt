-- What a call of a device does to its bytes and to the number of its calls.
use Rattle.std.specs.Prelude.{◌≡◌, ℕ, ◌+◌, ◌-◌, ◌^◌, ◌<◌, ◌≤◌, min, List, ◌++◌, length, take, Bool, true, Result, Ok, Err}
use Rattle.mpslp_types.specs.declared.faults.WriteFault.{WriteFault}
use Rattle.mpslp_types.specs.declared.faults.WriteFault.TheVariants.{Write, NotLp}

-- one more, at most 2^64 - 1
abbrev pub one_call_more : ℕ → ℕ
one_call_more count = min (count + 1) (2 ^ 64 - 1)

-- these bytes were appended to whatever was held
abbrev pub Grows : {S : Type 0} → (S → List ℕ → Type 0) → S → S → List ℕ → Type 0
Grows holds old new bytes = (before : List ℕ) → holds old before → holds new (before ++ bytes)

-- whatever was held is still held
abbrev pub KeepsHeld : {S : Type 0} → (S → List ℕ → Type 0) → S → S → Type 0
KeepsHeld holds old new = (before : List ℕ) → holds old before → holds new before

-- A write accepts a prefix of a piece, at least one byte unless the piece is empty. A failing write accepts none.
abbrev pub Takes : {S E : Type 0} → (S → List ℕ → Type 0) → S → S → List ℕ → Result ℕ E → Type 0
Takes holds old new piece (Ok n) = (n ≤ length piece) × (0 < length piece → 0 < n) × Grows holds old new (take n piece)
Takes holds old new piece (Err _) = KeepsHeld holds old new

-- A sink accepted the first `count` bytes of a piece and nothing else, and a tally of at most 2^64 - 1 grew by their number.
pub record TookMore {S : Type 0} (holds : S → List ℕ → Type 0) (old new : S) (piece : List ℕ) (tally_old tally_new : ℕ) : Type 0 where
  pub count : ℕ
  pub within : count ≤ length piece
  pub tally_is : tally_new ≡ min (tally_old + count) (2 ^ 64 - 1)
  pub holds_them : Grows holds old new (take count piece)

-- The sink took the first `count` bytes of a text and no others; `reported` is their number, saturated at 2^64 - 1.
pub record TookFirst {S : Type 0} (holds : S → List ℕ → Type 0) (old new : S) (text : List ℕ) (reported : ℕ) : Type 0 where
  pub count : ℕ
  pub within : count ≤ length text
  pub reported_is : reported ≡ min count (2 ^ 64 - 1)
  pub holds_them : Grows holds old new (take count text)

-- A sink took a text, or a prefix of it before it failed.
abbrev pub IsTaken : {S : Type 0} → (S → List ℕ → Type 0) → (S → Bool) → S → S → List ℕ → Result (Unit {0}) WriteFault → Type 0
IsTaken holds failed old new text (Ok _) = Grows holds old new text
IsTaken holds failed old new text (Err (Write written)) = (failed new ≡ true) × TookFirst holds old new text written
IsTaken holds failed old new text (Err (NotLp place)) = ⊥
