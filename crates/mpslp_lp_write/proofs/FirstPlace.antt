-- The first element of a list that passes a test, found by checking one after another.
use Rattle.mpslp_lp_write.proofs.Prelude
use Prelude.{◌≡◌, refl, sym, ap, ◌∙◌, ℕ, zero, suc, ◌+◌, ◌≤◌, Bool, true, false, not, cond, List, [], ◌∷◌, length, arith, Option, Some}
use Prelude.{None, slice_get, position, position_or_len, le-ltb, lt-ltb, slice_get_within}

module _ {X : Type 0} (p : X → Bool) where
  nothing_at : (x : X) → ◌≡◌ {A = Option X} None (Some x) → ⊥
  nothing_at x e = cc

  the_same : (x y : X) → ◌≡◌ {A = Option X} (Some x) (Some y) → x ≡ y
  the_same x y e = cc

  -- the first is after an element that does not pass
  pub first-after : (xs : List X) (i : ℕ) (x : X) → i ≤ position_or_len p xs → slice_get xs i ≡ Some x → p x ≡ false →
      i + 1 ≤ position_or_len p xs
  first-after [] i x h at fails = absurd (nothing_at x at)
  first-after (y ∷ ys) zero x h at fails =
      let fit : not (p y) ≡ true = ap (λ (z : X). not (p z)) (the_same y x at) ∙ ap not fails in
      let is : position_or_len p (y ∷ ys) ≡ 1 + position_or_len p ys =
      ap (λ (b : Bool). cond b (1 + position_or_len p ys) 0) fit in
      omega arith
  first-after (y ∷ ys) (suc i) x h at fails = by (p y) h (λ more. first-after ys i x more at fails)
    where
      by : (b : Bool) → suc i ≤ cond (not b) (1 + position_or_len p ys) 0 →
          (i ≤ position_or_len p ys → i + 1 ≤ position_or_len p ys) → suc i + 1 ≤ cond (not b) (1 + position_or_len p ys) 0
      by true h more = absurd (omega arith)
      by false h more = let next = more (omega arith) in omega arith

  -- and not after one that does
  first-before : (xs : List X) (i : ℕ) (x : X) → slice_get xs i ≡ Some x → p x ≡ true → position_or_len p xs ≤ i
  first-before [] i x at passes = absurd (nothing_at x at)
  first-before (y ∷ ys) zero x at passes =
      let fit : not (p y) ≡ false = ap (λ (z : X). not (p z)) (the_same y x at) ∙ ap not passes in
      let is : position_or_len p (y ∷ ys) ≡ 0 = ap (λ (b : Bool). cond b (1 + position_or_len p ys) 0) fit in
      omega arith
  first-before (y ∷ ys) (suc i) x at passes = by (p y) (first-before ys i x at passes)
    where
      by : (b : Bool) → position_or_len p ys ≤ i → cond (not b) (1 + position_or_len p ys) 0 ≤ suc i
      by true h = omega arith
      by false h = omega arith

  pub first-here : (xs : List X) (i : ℕ) (x : X) → i ≤ position_or_len p xs → slice_get xs i ≡ Some x → p x ≡ true →
      Some i ≡ position p xs
  first-here xs i x h at passes =
      let before = first-before xs i x at passes in
      let within = slice_get_within xs i x at in
      let is : position_or_len p xs ≡ i = omega arith in
      sym ((λ j. cond (lt-ltb (position_or_len p xs) (length xs) (omega arith) j) (Some (position_or_len p xs)) None)
      ∙ ap Some is)

  pub first-nowhere : (xs : List X) (i : ℕ) → i ≤ position_or_len p xs → length xs ≤ i → None ≡ position p xs
  first-nowhere xs i h past = sym (λ j. cond (le-ltb (position_or_len p xs) (length xs) (omega arith) j)
      (Some (position_or_len p xs)) None)

-- if each result with a place was handled, none is left
pub none-left : {X : Type 0} (o : Option X) → ((x : X) → o ≡ Some x → ⊥) → o ≡ None
none-left None never = refl
none-left (Some x) never = absurd (never x refl)
