-- Names of rows, columns and the objective.
use Rattle.std.specs.Prelude.{ℕ, ◌+◌, Bool, false, ◌&&◌, ◌||◌, not, nat_eq, nat_le, ◌==◌, if◌then◌else◌, IsTrue, List, [], ◌∷◌, length, map, codes}
use Rattle.std.specs.List.{list_any, list_all}
use Rattle.std.specs.Ordering.{nat_cmp}
use Rattle.std.specs.declared.cmp.Ordering.{Ordering}
use Rattle.std.specs.Cmp.Lexicographic.{pointwise, slice_cmp}
use Rattle.mpslp_decimal.specs.Literal.{is_digit}
use Rattle.mpslp_types.specs.declared.names.TheConstants.{MAX_NAME_LEN}

-- byte order
abbrev pub bytes_cmp : List ℕ → List ℕ → Ordering
bytes_cmp = slice_cmp nat_cmp

abbrev pub same_bytes : List ℕ → List ℕ → Bool
same_bytes = pointwise nat_eq

abbrev pub is_one_of : List (List ℕ) → List ℕ → Bool
is_one_of words word = list_any (same_bytes word) words

-- ---- names in MPS, and in a model

-- 1 to 255 bytes
abbrev pub has_name_length : List ℕ → Bool
has_name_length name = nat_le 1 (length name) && nat_le (length name) MAX_NAME_LEN

-- printable ASCII other than space
abbrev pub is_visible : ℕ → Bool
is_visible byte = nat_le 33 byte && nat_le byte 126

abbrev pub marker : List ℕ
marker = codes "'MARKER'"

abbrev pub is_mps_name : List ℕ → Bool
is_mps_name name = has_name_length name && (list_all is_visible name && not (same_bytes name marker))

abbrev pub IsMpsName : List ℕ → Type 0
IsMpsName name = IsTrue (is_mps_name name)

-- ---- names in LP

abbrev pub is_upper : ℕ → Bool
is_upper byte = nat_le 65 byte && nat_le byte 90

abbrev pub is_letter : ℕ → Bool
is_letter byte = is_upper byte || (nat_le 97 byte && nat_le byte 122)

-- the characters of LP names other than letters and digits
abbrev pub is_lp_symbol : ℕ → Bool
is_lp_symbol byte = list_any (λ symbol. symbol == byte) (codes "!\"#$%&()/,.;?@_'{}|~`")

abbrev pub is_lp_byte : ℕ → Bool
is_lp_byte byte = is_letter byte || (is_digit byte || is_lp_symbol byte)

abbrev pub lower_byte : ℕ → ℕ
lower_byte byte = if is_upper byte then byte + 32 else byte

abbrev pub reserved_words : List (List ℕ)
reserved_words =
    codes "min" ∷ codes "minimize" ∷ codes "minimum" ∷ codes "max" ∷ codes "maximize" ∷ codes "maximum"
    ∷ codes "subject" ∷ codes "such" ∷ codes "st" ∷ codes "s.t." ∷ codes "st." ∷ codes "bound" ∷ codes "bounds"
    ∷ codes "general" ∷ codes "generals" ∷ codes "gen" ∷ codes "integer" ∷ codes "integers" ∷ codes "int"
    ∷ codes "binary" ∷ codes "binaries" ∷ codes "bin" ∷ codes "semi" ∷ codes "semis"
    ∷ codes "sos" ∷ codes "sos1" ∷ codes "sos2" ∷ codes "free" ∷ codes "inf" ∷ codes "infinity" ∷ codes "end" ∷ []

-- in any case of the letters
abbrev pub is_reserved : List ℕ → Bool
is_reserved word = is_one_of reserved_words (map lower_byte word)

-- `e` or `E`, followed by nothing or by a digit
abbrev pub is_like_exponent : List ℕ → Bool
is_like_exponent [] = false
is_like_exponent (byte ∷ []) = byte == 101 || byte == 69
is_like_exponent (byte ∷ next ∷ _) = (byte == 101 || byte == 69) && is_digit next

-- a digit or a period
abbrev pub begins_a_number : List ℕ → Bool
begins_a_number [] = false
begins_a_number (byte ∷ _) = is_digit byte || byte == 46

abbrev pub is_lp_name : List ℕ → Bool
is_lp_name name = has_name_length name && (list_all is_lp_byte name && (not (begins_a_number name)
    && (not (is_like_exponent name) && (not (same_bytes name marker) && not (is_reserved name)))))
