-- A name is rejected if and only if it is not legal in MPS, and every name that is legal in LP is legal in MPS.
use Rattle.std.{proofs.Common.{Bool, List, [], arith, not, refl, true, ℕ, ◌∷◌, ◌≡◌}, specs.{Cmp.{first_so, second_so}, List.list_all}}
use Rattle.std.specs.{List.list_any, Prelude.{codes, ◌&&◌, ◌==◌, ◌||◌}}
use Rattle.mpslp_decimal.specs.Literal.{is_digit}
use Rattle.mpslp_types.{proofs.{BoolLemmas.both_so, EachLemmas.imp_all}, specs.Name.{begins_a_number, has_name_length, is_letter}}
use Rattle.mpslp_types.specs.Name.{is_like_exponent, is_lp_byte, is_lp_name, is_mps_name, is_reserved, is_upper, is_visible, marker}
use Rattle.mpslp_types.specs.Name.{same_bytes}

visible_among : (symbols : List ℕ) (byte : ℕ) → list_all is_visible symbols ≡ true →
    list_any (λ symbol. symbol == byte) symbols ≡ true → is_visible byte ≡ true
visible_among [] byte all any = cc
visible_among (symbol ∷ symbols) byte all any = grind (arith, visible_among symbols byte)

either : (a b c : Bool) → (a ≡ true → c ≡ true) → (b ≡ true → c ≡ true) → (a || b) ≡ true → c ≡ true
either = grind arith

visible_byte : (byte : ℕ) → is_lp_byte byte ≡ true → is_visible byte ≡ true
visible_byte byte =
    either (is_letter byte) _ (is_visible byte)
    (either (is_upper byte) _ _ (λ h. (grind (arith, h))) (λ h. (grind (arith, h))))
    (either (is_digit byte) _ _ (λ h. (grind (arith, h))) (λ h. visible_among (codes "!\"#$%&()/,.;?@_'{}|~`") byte refl h))

-- a legal name in LP is legal in MPS
pub mps_name-from_lp : (name : List ℕ) → is_lp_name name ≡ true → is_mps_name name ≡ true
mps_name-from_lp name h =
    let no_marker = not (same_bytes name marker) in
    let t4 = no_marker && not (is_reserved name) in
    let t3 = not (is_like_exponent name) && t4 in
    let t2 = not (begins_a_number name) && t3 in
    let t1 = list_all is_lp_byte name && t2 in
    let h1 = second_so (has_name_length name) t1 h in
    let h2 = second_so (list_all is_lp_byte name) t2 h1 in
    let h3 = second_so (not (begins_a_number name)) t3 h2 in
    let h4 = second_so (not (is_like_exponent name)) t4 h3 in
    both_so _ _ (first_so (has_name_length name) t1 h)
    (both_so _ _
    (imp_all _ _ name visible_byte (first_so (list_all is_lp_byte name) t2 h1))
    (first_so no_marker (not (is_reserved name)) h4))
