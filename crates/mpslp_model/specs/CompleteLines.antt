-- Which lines of a text are complete if only a prefix of it is known.
use Rattle.std.specs.Prelude.{◌≡◌, ℕ, Bool, false, ◌==◌, List, [], ◌∷◌}
use Rattle.std.specs.List.{slice_split, All}
use Rattle.std.specs.Str.Lines.{strip_carriage_return}

abbrev pub is_feed : ℕ → Bool
is_feed byte = byte == 10

-- the parts that are followed by a line feed, as lines
abbrev pub ended_parts : List (List ℕ) → List (List ℕ)
ended_parts [] = []
ended_parts (part ∷ []) = []
ended_parts (part ∷ next ∷ more) = strip_carriage_return part ∷ ended_parts (next ∷ more)

-- the last part, which is not followed by one
abbrev pub last_part : List (List ℕ) → List ℕ
last_part [] = []
last_part (part ∷ []) = part
last_part (part ∷ next ∷ more) = last_part (next ∷ more)

-- the lines that end with a line feed
abbrev pub complete_lines : List ℕ → List (List ℕ)
complete_lines bytes = ended_parts (slice_split is_feed bytes)

-- the bytes after the last line feed. A carriage return at their end is one of them
abbrev pub open_tail : List ℕ → List ℕ
open_tail bytes = last_part (slice_split is_feed bytes)

-- There is no line feed in these bytes.
abbrev pub HasNoFeed : List ℕ → Type 0
HasNoFeed bytes = All (λ byte. is_feed byte ≡ false) bytes
