-- What is kept of an incomplete line.
use Rattle.std.specs.Prelude.{◌≡◌, ℕ, ◌+◌, nat_lt, Bool, List, [], length, if◌then◌else◌}
use Rattle.mpslp_lines.specs.declared.legal_line.TheConstants.{MAX_LINE_LEN}

-- its bytes, or only that it is too long
pub record KeptLine : Type 0 where
  pub bytes : List ℕ
  pub is_too_long : Bool

-- too long, even if a carriage return at its end does not belong to it
abbrev pub is_beyond : List ℕ → Bool
is_beyond line = nat_lt (MAX_LINE_LEN + 1) (length line)

-- This is kept of the bytes of the line so far.
pub record Keeps (kept : KeptLine) (line : List ℕ) : Type 0 where
  pub too_long : kept.is_too_long ≡ is_beyond line
  pub bytes : kept.bytes ≡ (if is_beyond line then [] else line)
