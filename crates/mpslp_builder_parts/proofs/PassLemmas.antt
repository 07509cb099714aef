-- What a loop moves from one list to another.
use Rattle.std.{proofs.Common.{List, [], ap, arith, refl, subst, suc, zero, ℕ, ◌++◌, ◌∙◌, ◌∷◌, ◌≡◌}, specs.List.All}
use Rattle.mpslp_model_core.specs.Numbered.{each_part}

-- the first remaining item is appended to those that are done
pub passed_on : {X : Type 0} (done later left all : List X) (x : X) → later ≡ done ++ x ∷ [] → done ++ x ∷ left ≡ all →
    later ++ left ≡ all
passed_on {X} done later left all x is before = ap (λ (xs : List X). xs ++ left) is ∙ after done ∙ before
  where
    after : (xs : List X) → (xs ++ x ∷ []) ++ left ≡ xs ++ x ∷ left
    after [] = refl
    after (y ∷ ys) = ap (λ (more : List X). y ∷ more) (after ys)

-- a property of all remaining items is one of the first, and of the others
pub holds_first : {X : Type 0} (P : X → Type 0) (xs ys : List X) (x : X) → xs ≡ x ∷ ys → All P xs → P x
holds_first P xs ys x is h = subst (All P) is h zero x (omega arith)

pub holds_later : {X : Type 0} (P : X → Type 0) (xs ys : List X) (x : X) → xs ≡ x ∷ ys → All P xs → All P ys
holds_later P xs ys x is h k d l = subst (All P) is h (suc k) d (omega (arith, l))

-- a part of each entry, with one more at the end
pub each_part-append : {V X : Type 0} (f : V → X) (es : List (List ℕ × V)) (k : List ℕ) (v : V)
    → each_part f (es ++ (k, v) ∷ []) ≡ each_part f es ++ (k, f v) ∷ []
each_part-append f [] k v = refl
each_part-append {V} {X} f (e ∷ es) k v = grind (arith, each_part-append f es k v)
