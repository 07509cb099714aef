-- Parts of entries that are taken in an order.
use Rattle.std.{proofs.Common.{List, [], ap, arith, length, refl, subst, suc, sym, zero, ℕ, ◌∙◌, ◌∷◌, ◌≡◌}, specs.List.{All, cons_option}}
use Rattle.std.specs.{Option.option_map, Prelude.{None, Option, Some, slice_get}}
use Rattle.mpslp_model_core.specs.Numbered.{each_part}
use Rattle.mpslp_builder_parts.specs.Ordered.{entries_at}

module _ {V X : Type 0} (f : V → X) where
  pub part_at : (es : List (List ℕ × V)) (n : ℕ) → slice_get (each_part f es) n ≡ option_map (λ e. (e.0, f e.1)) (slice_get es n)
  part_at [] n = refl
  part_at (e ∷ es) zero = refl
  part_at (e ∷ es) (suc n) = part_at es n

  each_part-cons_option : (o : Option (List ℕ × V)) (es : List (List ℕ × V))
      → each_part f (cons_option o es) ≡ cons_option (option_map (λ e. (e.0, f e.1)) o) (each_part f es)
  each_part-cons_option None es = refl
  each_part-cons_option (Some e) es = refl

  -- the parts of what is taken are what is taken of the parts
  each_part-taken : (es : List (List ℕ × V)) (ns : List ℕ) → each_part f (entries_at es ns) ≡ entries_at (each_part f es) ns
  each_part-taken es [] = refl
  each_part-taken es (n ∷ ns) =
      each_part-cons_option (slice_get es n) (entries_at es ns)
      ∙ (λ i. cons_option (sym (part_at es n) i) (each_part-taken es ns i))

  pub length-each_part : (es : List (List ℕ × V)) → length (each_part f es) ≡ length es
  length-each_part [] = refl
  length-each_part (e ∷ es) = ap suc (length-each_part es)

-- entries with the same parts have the same parts in any order
pub taken-alike : {V W X : Type 0} (f : V → X) (g : W → X) (es : List (List ℕ × V)) (ds : List (List ℕ × W))
    → each_part f es ≡ each_part g ds → (ns : List ℕ) → each_part f (entries_at es ns) ≡ each_part g (entries_at ds ns)
taken-alike f g es ds same ns = each_part-taken f es ns ∙ ap (λ (parts : List (List ℕ × _)). entries_at parts ns) same
    ∙ sym (each_part-taken g ds ns)

-- and they have the same length
pub as_many : {V W X : Type 0} (f : V → X) (g : W → X) (es : List (List ℕ × V)) (ds : List (List ℕ × W))
    → each_part f es ≡ each_part g ds → length es ≡ length ds
as_many f g es ds same = grind (arith, length-each_part)

cons_option-all : {X : Type 0} (P : X → Type 0) (o : Option X) (xs : List X) → ((x : X) → o ≡ Some x → P x) → All P xs
    → All P (cons_option o xs)
cons_option-all v0 v1 xs here rest = grind arith

holds_at : {X : Type 0} (P : X → Type 0) (xs : List X) (n : ℕ) (x : X) → All P xs → slice_get xs n ≡ Some x → P x
holds_at P [] n x all is = cc
holds_at {X} P (y ∷ ys) zero x all is = let same : ◌≡◌ {A = X} y x = cc in subst P same (all zero y (omega arith))
holds_at P (y ∷ ys) (suc n) x all is = holds_at P ys n x (λ k d below. all (suc k) d (omega (arith, below))) is

pub taken-all : {X : Type 0} (P : X → Type 0) (xs : List X) (ns : List ℕ) → All P xs → All P (entries_at xs ns)
taken-all P xs [] all = grind arith
taken-all P xs (n ∷ ns) all = cons_option-all P _ _ (λ x is. holds_at P xs n x all is) (taken-all P xs ns all)
