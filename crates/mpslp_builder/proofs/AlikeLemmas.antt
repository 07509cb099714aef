-- What is found in all columns depends only on what contracts see of them.
use Rattle.mpslp_builder.proofs.Prelude
use Prelude.{arith, ◌≡◌, refl, sym, ap, ◌∙◌, ℕ, List, [], ◌∷◌, Bool, length, ◌||◌, each_part, list_any, least_name, entry_name}
use Rattle.mpslp_builder_parts.proofs.{ColumnLemmas.name_of_part, TakenLemmas.as_many}

module _ {V X : Type 0} (f : V → X) (p : X → Bool) where
  any_part : (es : List (List ℕ × V)) → list_any (λ e. p (f e.1)) es ≡ list_any (λ e. p e.1) (each_part f es)
  any_part [] = refl
  any_part (e ∷ es) = ap (λ (b : Bool). p (f e.1) || b) (any_part es)

  least_part : (es : List (List ℕ × V)) → least_name (λ v. p (f v)) es ≡ least_name p (each_part f es)
  least_part [] = refl
  least_part (e ∷ es) = grind (arith, least_part es)

-- two lists of entries with the same part
module _ {V W X : Type 0} (f : V → X) (g : W → X) (es : List (List ℕ × V)) (ds : List (List ℕ × W))
    (same : each_part f es ≡ each_part g ds) where
  pub any_alike : (p : X → Bool) → list_any (λ e. p (f e.1)) es ≡ list_any (λ e. p (g e.1)) ds
  any_alike p = any_part f p es ∙ ap (list_any (λ (e : List ℕ × X). p e.1)) same ∙ sym (any_part g p ds)

  pub least_alike : (p : X → Bool) → least_name (λ v. p (f v)) es ≡ least_name (λ w. p (g w)) ds
  least_alike p = least_part f p es ∙ ap (least_name p) same ∙ sym (least_part g p ds)

  pub named_alike : (i : ℕ) → entry_name es i ≡ entry_name ds i
  named_alike i = name_of_part f es i ∙ ap (λ (parts : List (List ℕ × X)). entry_name parts i) same ∙ sym (name_of_part g ds i)

  pub length_alike : length es ≡ length ds
  length_alike = as_many f g es ds same
