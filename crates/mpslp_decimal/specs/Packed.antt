-- Decimals without padding for alignment.
use Rattle.std.specs.Prelude.{◌+◌, ◌*◌, ℕ, ℤ, List, [], ◌∷◌}
use Rattle.std.specs.Int.{w128, cast_signed}
use Rattle.mpslp_decimal.specs.Decimal.{Number}
use Rattle.mpslp_decimal.specs.declared.packed.PackedDecimal.TheInside.{Inside}

-- the bits of four words of 32 bits, the lowest first
abbrev pub bits_of : List ℕ → ℕ
bits_of (a ∷ b ∷ c ∷ d ∷ []) = (a + b * 4294967296) + (c + d * 4294967296) * 18446744073709551616
bits_of words = 0

-- the number that four words represent
abbrev pub mantissa_of : List ℕ → ℤ
mantissa_of words = cast_signed w128 (bits_of words)

abbrev pub unpacked : Inside → Number
unpacked packed = record { mantissa = mantissa_of packed.mantissa; exponent = packed.exponent }
