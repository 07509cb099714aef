-- Properties of each item of a list.
use Rattle.std.proofs.Common.{arith}
use Rattle.std.proofs.Common.{◌≡◌, refl, ap, List, [], ◌∷◌, Bool, true, map}
use Rattle.std.specs.Prelude.{filter, ◌&&◌}
use Rattle.std.specs.List.{list_all, flat_map}
use Rattle.std.specs.Cmp.{second_so}
use Rattle.mpslp_types.proofs.BoolLemmas.{both_so}
pub use Rattle.mpslp_decimal.proofs.CutLemmas.{Each, Each-weaker, Each-append}

-- two properties of each item imply a third
pub Each-both : {X : Type 0} (P Q R : X → Type 0) → ((x : X) → P x → Q x → R x) → (xs : List X) → Each P xs →
    Each Q xs → Each R xs
Each-both P Q R f [] h k = tt
Each-both P Q R f (x ∷ xs) h k = (f x h.0 k.0, Each-both P Q R f xs h.1 k.1)

-- of the images
pub Each-map : {X Y : Type 0} (P : Y → Type 0) (f : X → Y) (xs : List X) → Each (λ x. P (f x)) xs → Each P (map f xs)
Each-map P f [] h = tt
Each-map P f (x ∷ xs) h = (h.0, Each-map P f xs h.1)

-- of the parts
pub Each-flat_map : {X Y : Type 0} (P : Y → Type 0) (f : X → List Y) (xs : List X) → Each (λ x. Each P (f x)) xs →
    Each P (flat_map f xs)
Each-flat_map P f [] h = tt
Each-flat_map P f (x ∷ xs) h = Each-append P (f x) (flat_map f xs) h.0 (Each-flat_map P f xs h.1)

-- of those that also pass the test
pub Each-filter : {X : Type 0} (P : X → Type 0) (p : X → Bool) (xs : List X) → Each (λ x. p x ≡ true → P x) xs →
    Each P (filter p xs)
Each-filter P p [] h = tt
Each-filter {X} P p (x ∷ xs) h = grind (arith, Each-filter P p xs h.1)

-- a property of everything
pub Each-all : {X : Type 0} (P : X → Type 0) → ((x : X) → P x) → (xs : List X) → Each P xs
Each-all P f [] = tt
Each-all P f (x ∷ xs) = (f x, Each-all P f xs)

-- a test that all items pass, and back
pub Each-from_list_all : {X : Type 0} (p : X → Bool) (xs : List X) → list_all p xs ≡ true → Each (λ x. p x ≡ true) xs
Each-from_list_all p [] h = tt
Each-from_list_all p (x ∷ xs) h = grind (arith, Each-from_list_all p xs (second_so (p x) (list_all p xs) h))

pub list_all-from_Each : {X : Type 0} (p : X → Bool) (xs : List X) → Each (λ x. p x ≡ true) xs → list_all p xs ≡ true
list_all-from_Each p [] h = refl
list_all-from_Each p (x ∷ xs) h = rw (h.0, list_all-from_Each p xs h.1) refl

-- ---- tests that all items pass

-- a test that implies another
pub imp_all : {X : Type 0} (p q : X → Bool) (xs : List X) → ((x : X) → p x ≡ true → q x ≡ true) → list_all p xs ≡ true
    → list_all q xs ≡ true
imp_all p q [] f h = refl
imp_all p q (x ∷ xs) f h = grind (arith, both_so, imp_all p q xs f (second_so (p x) (list_all p xs) h))

-- two tests
pub and_all : {X : Type 0} (p q : X → Bool) (xs : List X) → list_all p xs ≡ true → list_all q xs ≡ true
    → list_all (λ x. p x && q x) xs ≡ true
and_all p q [] h k = refl
and_all p q (x ∷ xs) h k = grind
    (arith, both_so, and_all p q xs (second_so (p x) (list_all p xs) h) (second_so (q x) (list_all q xs) k))

-- a test of the images
pub map_all : {X Y : Type 0} (f : X → Y) (q : Y → Bool) (xs : List X) → list_all (λ x. q (f x)) xs ≡ list_all q (map f xs)
map_all f q [] = refl
map_all f q (x ∷ xs) = ap (λ b. q (f x) && b) (map_all f q xs)
