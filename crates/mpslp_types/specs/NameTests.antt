-- The first error of a name, the names that are legal in LP, and the beginnings of reserved words.
use Rattle.std.specs.Prelude.{ℕ, Bool, false, ◌&&◌, not, nat_le, if◌then◌else◌, IsTrue, List, [], ◌∷◌, length, Option, Some, None, codes}
use Rattle.std.specs.List.{list_any, list_all}
use Rattle.mpslp_types.specs.declared.names.NameFault.{NameFault}
use Rattle.mpslp_types.specs.declared.names.NameFault.TheVariants.{NameLength, NameByte, NameMarker}
use Rattle.mpslp_types.specs.Name.{same_bytes, has_name_length, is_visible, marker, lower_byte, is_lp_name}

-- the first error of bytes that are not a legal name
abbrev pub name_refusal : List ℕ → Option NameFault
name_refusal name =
    if not (has_name_length name) then Some NameLength
    else (if not (list_all is_visible name) then Some NameByte
    else (if same_bytes name marker then Some NameMarker else None))

-- the first two letters of reserved words, in lower case
abbrev pub reserved_beginnings : List (List ℕ)
reserved_beginnings =
    codes "bi" ∷ codes "bo" ∷ codes "en" ∷ codes "fr" ∷ codes "ge" ∷ codes "in" ∷ codes "ma" ∷ codes "mi"
    ∷ codes "s." ∷ codes "se" ∷ codes "so" ∷ codes "st" ∷ codes "su" ∷ []

-- two letters with which a reserved word begins, ignoring case
abbrev pub begins_reserved : ℕ → ℕ → Bool
begins_reserved first second = list_any (same_bytes (lower_byte first ∷ lower_byte second ∷ [])) reserved_beginnings

-- a word that is not longer than the longest reserved word, and begins like one of them
abbrev pub may_be_reserved : List ℕ → Bool
may_be_reserved (first ∷ second ∷ rest) = nat_le (length (first ∷ second ∷ rest)) 8 && begins_reserved first second
may_be_reserved _ = false

abbrev pub IsLpName : List ℕ → Type 0
IsLpName name = IsTrue (is_lp_name name)
