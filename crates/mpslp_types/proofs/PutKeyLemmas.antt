-- A vector of entries in the order of their keys: inserting before the first key that is not less is `put`.
use Rattle.std.{proofs.Common.{List, [], ap, arith, cond, not, refl, suc, sym, ℕ, ◌+◌, ◌∙◌, ◌∷◌, ◌≡◌}, specs.FinMap.{find, put}}
use Rattle.std.specs.{FinMap.Entries.by_order, List.position_or_len, Ordering.{is_eq, is_le}, Prelude.{None, Some, insert}}
use Rattle.std.specs.declared.cmp.Ordering.{Ordering, TheVariants.{Equal, Greater, Less}}

suc_of : (n : ℕ) → 1 + n ≡ suc n
suc_of n = omega arith

pub put-insert : {K X : Type 0} (R : K → K → Ordering) (k : K) (v : X) (es : List (K × X)) → find R k es ≡ None
    → put R k v es ≡ insert es (position_or_len (λ entry. is_le (R k entry.0)) es) (k, v)
put-insert R k v [] h = refl
put-insert {K} {X} R k v (e ∷ es) h =
    let n = position_or_len (λ entry. is_le (R k entry.0)) es in
    elim (R k e.0) as (λ r. cond (is_eq r) (Some e.1) (find R k es) ≡ None
    → by_order r ((k, v) ∷ e ∷ es) ((e.0, v) ∷ es) (e ∷ put R k v es) ≡ insert (e ∷ es) (cond (not (is_le r)) (1 + n) 0) (k, v)) [
      | Less ↦ λ _. refl
      | Equal ↦ λ same. cc
      | Greater ↦ λ rest. ap (λ xs. e ∷ xs) (put-insert R k v es rest) ∙ ap (λ i. insert (e ∷ es) i (k, v)) (sym (suc_of n))
    ] h
