-- Sets of bytes, and vectors that have all bytes of a text.
use Rattle.std.specs.Prelude.{◌≡◌, ℕ, ◌/◌, Bool, true, not, nat_eq, List, slice_index, bit_and}
use Rattle.std.specs.List.{list_all}
use Rattle.mpslp_types.specs.declared.names.byte_sets.ByteSet.{ByteSet}

-- what the tables have at the low and at the high four bits has a bit in common
abbrev pub is_in : ByteSet → ℕ → Bool
is_in set byte = not (nat_eq (bit_and (slice_index set.low (bit_and byte 15)) (slice_index set.high (byte / 16))) 0)

-- what holds of all lanes holds of all bytes of the text
abbrev pub Covers : List ℕ → List ℕ → Type 0
Covers lanes text = (test : ℕ → Bool) → list_all test lanes ≡ true → list_all test text ≡ true
