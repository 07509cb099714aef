-- The hash of a name, which depends on 128 secret bits: 16 bytes at a time are multiplied to 128 bits, whose halves are joined.
use Rattle.std.specs.Prelude.{ℕ, zero, suc, ◌+◌, ◌-◌, ◌*◌, ◌/◌, ◌%◌, ◌^◌, List, length, if◌then◌else◌, nat_le, nat_lt, slice_index, bit_and, bit_or, bit_xor}
use Rattle.mpslp_types.specs.declared.names.hashing.HashSeed.{HashSeed}
use Rattle.mpslp_types.specs.declared.names.hashing.NameHasher.{NameHasher}

-- the hasher before the first byte
abbrev pub initial_hasher : HashSeed → NameHasher
initial_hasher seed = record { state = seed.state; factor = seed.factor }

-- the two halves of the 128 bits of a * b, joined by exclusive or
unfoldable pub folded_multiply : ℕ → ℕ → ℕ
folded_multiply a b = bit_xor (bit_and (a * b) (2 ^ 64 - 1)) (a * b / 2 ^ 64)

-- the four bytes from i on, the lowest first
unfoldable pub read_u32 : List ℕ → ℕ → ℕ
read_u32 bytes i = slice_index bytes i + slice_index bytes (i + 1) * 256 + slice_index bytes (i + 2) * 65536 + slice_index bytes (i + 3) * 16777216

-- `x << by` of 64 bits
abbrev pub shifted : ℕ → ℕ → ℕ
shifted x by = (x * 2 ^ by) % 2 ^ 64

-- the eight bytes from i on
unfoldable pub read_u64 : List ℕ → ℕ → ℕ
read_u64 bytes i = bit_or (read_u32 bytes i) (shifted (read_u32 bytes (i + 4)) 32)

-- up to eight bytes, which their number and this determine
unfoldable pub read_short : List ℕ → ℕ
read_short bytes =
    let n = length bytes in
    if nat_le 4 n then bit_or (read_u32 bytes 0) (shifted (read_u32 bytes (n - 4)) 32)
    else (if nat_lt 0 n then bit_or (bit_or (slice_index bytes 0) (shifted (slice_index bytes (n / 2)) 8)) (shifted (slice_index bytes (n - 1)) 16) else 0)

-- the state after the words at i and at j
abbrev pub mix : ℕ → List ℕ → ℕ → ℕ → ℕ → ℕ
mix factor bytes state i j = folded_multiply (bit_xor (read_u64 bytes i) state) (bit_xor (read_u64 bytes j) factor)

-- the state after the first n blocks of 16 bytes
unfoldable pub mix_blocks : ℕ → List ℕ → ℕ → ℕ → ℕ
mix_blocks factor bytes state zero = state
mix_blocks factor bytes state (suc n) = mix factor bytes (mix_blocks factor bytes state n) (16 * n) (16 * n + 8)

-- the hasher after bytes
unfoldable pub write : NameHasher → List ℕ → NameHasher
write hasher bytes =
    let n = length bytes in
    let short = folded_multiply (bit_xor hasher.state (read_short bytes)) (bit_xor hasher.factor (2 * n)) in
    let long = mix hasher.factor bytes (mix_blocks hasher.factor bytes ((hasher.state + n) % 2 ^ 64) ((n - 1) / 16)) (n - 16) (n - 8) in
    record hasher { state = if nat_le n 8 then short else long }

-- the hash of what was written
abbrev pub finish : NameHasher → ℕ
finish hasher = hasher.state
