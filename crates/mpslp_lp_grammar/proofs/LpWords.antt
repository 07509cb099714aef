-- Names without an error, and names of which each byte may be in an LP name.
use Rattle.std.proofs.Common.{arith, ◌≡◌, refl, ℕ, List, [], ◌∷◌, Bool, true, not}
use Rattle.std.specs.{Prelude.{None, ◌&&◌}, List.{list_all}, Cmp.{first_so, second_so}}
use Rattle.mpslp_types.specs.Name.{has_name_length, is_visible, is_mps_name, is_lp_byte, is_like_exponent, same_bytes, marker}
use Rattle.mpslp_types.proofs.{BoolLemmas.{both_so}, NameLemmas.{mps_name-from_lp}}
use Rattle.mpslp_lines.specs.FaultTests.{first_held}
use Rattle.mpslp_lp_grammar.specs.Terminal.{name_fault}
use Rattle.mpslp_types.specs.declared.faults.FaultKind.TheVariants as faults

-- ---- what a name without an error is

pub record HasNoFault (name : List ℕ) : Type 0 where
  pub legal : is_mps_name name ≡ true
  pub no_exponent : not (is_like_exponent name) ≡ true

pub name-without_fault : (name : List ℕ) → name_fault name ≡ None → HasNoFault name
name-without_fault = grind arith

-- ---- bytes of LP names

-- the name of an `a` and this byte is legal in LP, and so in MPS
visible-byte : (byte : ℕ) → is_lp_byte byte ≡ true → is_visible byte ≡ true
visible-byte byte h =
    let legal = mps_name-from_lp (97 ∷ byte ∷ []) (rw h refl) in
    first_so (is_visible byte) true (first_so (is_visible byte && true) true legal)

visible-bytes : (name : List ℕ) → list_all is_lp_byte name ≡ true → list_all is_visible name ≡ true
visible-bytes [] h = refl
visible-bytes (byte ∷ bytes) h =
    both_so (is_visible byte) (list_all is_visible bytes)
    (visible-byte byte (first_so (is_lp_byte byte) (list_all is_lp_byte bytes) h))
    (visible-bytes bytes (second_so (is_lp_byte byte) (list_all is_lp_byte bytes) h))

-- the error of such a name, by the tests that are left
pub fault-of_lp_bytes : (name : List ℕ) (long marked like : Bool) → has_name_length name ≡ long → same_bytes name marker ≡ marked
    → is_like_exponent name ≡ like → list_all is_lp_byte name ≡ true
    → first_held ((not long, faults.NameLength) ∷ (marked, faults.NameMarker) ∷ (like, faults.NameLikeExponent) ∷ []) ≡
    name_fault name
fault-of_lp_bytes = grind (arith, visible-bytes)
