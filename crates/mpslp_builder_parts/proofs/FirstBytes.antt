-- The first bytes of a name as a number are read from 8 bytes at once.
use Rattle.std.proofs.Common.{◌≡◌, refl, sym, ◌∙◌, ℕ, zero, suc, ◌+◌, ◌-◌, ◌<◌, ◌≤◌, ◌++◌, List, get_or, take, drop}
use Rattle.std.proofs.Common.{replicate, length, arith, true}
use Rattle.std.proofs.{Common.{false, nat_lt}, lemmas.{Bool.Decides.nat_tests, List.{get_or_append_left, get_or-take, get_or-append_right}}}
use Rattle.std.proofs.lemmas.List.{get_or-drop, get_or_past, length-take-le}
use Rattle.std.specs.{Int.{from_be_bytes, w64}, Prelude.slice_index}
use Rattle.mpslp_builder_parts.specs.Ordered.{front_value}

pub front-same : (n : ℕ) (a b : List ℕ) → ((i : ℕ) → i < n → slice_index a i ≡ slice_index b i) →
    front_value n a ≡ front_value n b
front-same zero a b h = refl
front-same (suc n) a b h = grind (arith, front-same n a b (λ i l. h i (omega (arith, l))), h n (omega arith))

pub be-front : (bytes : List ℕ) → from_be_bytes w64 bytes ≡ front_value 8 bytes
be-front bytes = omega arith

zero_at : (n k : ℕ) → get_or (replicate {A = ℕ} n 0) k 0 ≡ 0
zero_at zero k = refl
zero_at (suc n) zero = refl
zero_at (suc n) (suc k) = zero_at n k

-- a name in a list of zeros
pub padded : (count len i : ℕ) (name : List ℕ) → len ≤ length name → (len ≤ i → length name ≤ i)
    → get_or (take len name ++ drop len (replicate count 0)) i 0 ≡ get_or name i 0
padded count len i name within past =
    let len_is : length (take len name) ≡ len = length-take-le len name within in
    elim (nat_lt i len) as (λ b. nat_lt i len ≡ b →
    get_or (take len name ++ drop len (replicate count 0)) i 0 ≡ get_or name i 0) [
      | true ↦ λ e. let below : i < len = grind (arith, nat_tests, e) in
          get_or_append_left (take len name) (drop len (replicate count 0)) 0 i (omega (arith, below, len_is))
          ∙ get_or-take len name i 0 below
      | false ↦ λ e. let above : len ≤ i = grind (arith, nat_tests, e) in
          get_or-append_right (take len name) (drop len (replicate count 0)) len i 0 len_is above
          ∙ get_or-drop len (replicate count 0) (i - len) 0 ∙ zero_at count (len + (i - len))
          ∙ sym (get_or_past name i 0 (past above))
    ] refl
