-- The canonical text of a decimal.
use Rattle.std.specs.Prelude.{ℕ, ◌+◌, ◌-◌, ℤ, pos, negsuc, unsigned_abs, nat_lt, nat_le, if◌then◌else◌, List, [], ◌∷◌, ◌++◌, length, take, drop, replicate, codes}
use Rattle.std.specs.Fmt.{decimal}
use Rattle.mpslp_decimal.specs.Decimal.{Number, is_zero, is_negative}

-- digits with a point before the last `places`, with leading zeros so that a digit is before the point
abbrev pub with_point : ℕ → List ℕ → List ℕ
with_point places digits =
    let padded = replicate (places + 1 - length digits) 48 ++ digits in
    take (length padded - places) padded ++ 46 ∷ drop (length padded - places) padded

-- the greatest exponent that is printed as zeros
abbrev pub most_zeros : ℕ
most_zeros = 5

-- the most digits after a point
abbrev pub most_places : ℕ
most_places = 18

-- digits times ten to the exponent
abbrev pub scaled_text : List ℕ → ℤ → List ℕ
scaled_text digits (pos n) = if nat_le n most_zeros then digits ++ replicate n 48 else digits ++ codes "e" ++ decimal n
scaled_text digits (negsuc n) = if nat_lt n most_places then with_point (n + 1) digits else digits ++ codes "e-" ++ decimal (n + 1)

abbrev pub sign_text : Number → List ℕ
sign_text d = if is_negative d then codes "-" else []

abbrev pub number_text : Number → List ℕ
number_text d =
    if is_zero d then codes "0"
    else sign_text d ++ scaled_text (decimal (unsigned_abs d.mantissa)) d.exponent
