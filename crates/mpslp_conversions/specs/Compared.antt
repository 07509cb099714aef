-- The state of a comparing sink.
use Rattle.std.specs.Prelude.{◌≡◌, ◌≢◌, ℕ, List, ◌∷◌, ◌++◌, length, Bool, true, false}

-- What was written is a prefix of the expected text, followed by this rest; or it is not a prefix.
abbrev pub IsFront : Bool → List ℕ → List ℕ → List ℕ → Type 0
IsFront false rest wanted written = wanted ≡ written ++ rest
IsFront true rest wanted written = (more : List ℕ) → wanted ≢ written ++ more

-- A comparing sink stores no bytes. In contracts it holds the length and the bytes of the expected text, and then what was
-- written; so its state shows whether they are the same.
pub record Compared (differs : Bool) (rest held : List ℕ) : Type 0 where
  pub wanted : List ℕ
  pub written : List ℕ
  pub held_is : held ≡ length wanted ∷ (wanted ++ written)
  pub front : IsFront differs rest wanted written
