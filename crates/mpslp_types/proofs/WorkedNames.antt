-- Worked examples: names, by computation.
use Rattle.std.{proofs.Common.{Bool, List, false, map, refl, true, ℕ, ◌≡◌}, specs.Prelude.{None, Option, Some, [], codes, replicate, ◌∷◌}}
use Rattle.mpslp_types.specs.{Name.{is_lp_name, is_mps_name, marker}, NameTests.name_refusal, declared.names.NameFault.NameFault}
use Rattle.mpslp_types.specs.declared.names.NameFault.TheVariants.{NameByte, NameLength, NameMarker}

abbrev refusals : List (List ℕ × Option NameFault)
refusals =
    ([], Some NameLength) ∷
    (codes "X", None) ∷
    (replicate 255 97, None) ∷
    (replicate 256 97, Some NameLength) ∷
    -- the length is checked first
    (replicate 256 32, Some NameLength) ∷
    (codes "a b", Some NameByte) ∷
    -- the first and the last visible byte, and those after it
    (33 ∷ [], None) ∷
    (126 ∷ [], None) ∷
    (127 ∷ [], Some NameByte) ∷
    (128 ∷ [], Some NameByte) ∷
    (codes "'MARKER'", Some NameMarker) ∷
    (codes "'MARKER", None) ∷
    (codes "'marker'", None) ∷
    []

refusals-right : map (λ row. name_refusal row.0) refusals ≡ map (λ row. row.1) refusals
refusals-right = refl

abbrev lp_names : List (List ℕ × Bool)
lp_names =
    (codes "x1", true) ∷
    (codes "!\"#$%&()/,.;?@_'{}|~`", true) ∷
    (replicate 255 97, true) ∷
    (replicate 256 97, false) ∷
    (codes "x-1", false) ∷
    (codes "x[1]", false) ∷
    (codes "1x", false) ∷
    (codes ".x", false) ∷
    (codes "x.1", true) ∷
    (codes "e", false) ∷
    (codes "E1", false) ∷
    (codes "efficiency", true) ∷
    (marker, false) ∷
    (codes "Free", false) ∷
    (codes "S.T.", false) ∷
    -- reserved only directly after `subject` and `such`
    (codes "to", true) ∷
    (codes "sos3", true) ∷
    []

lp_names-right : map (λ row. is_lp_name row.0) lp_names ≡ map (λ row. row.1) lp_names
lp_names-right = refl

-- bytes that are legal in MPS names but not in LP names
mps_only : is_mps_name (codes "x[1]^*+-<>=:\\") ≡ true
mps_only = refl
