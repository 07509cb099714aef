-- The numbers below a count.
use Rattle.std.proofs.Common.{◌≡◌, sym, ap, ◌∙◌, ℕ, ◌+◌, List, [], ◌∷◌, ◌++◌, arith}
use Rattle.std.proofs.lemmas.List.{map-id, FromFn.{map-range_with_len_more}}
use Rattle.std.specs.List.{range_with_len}

pub range_more : (count : ℕ) → range_with_len 0 (count + 1) ≡ range_with_len 0 count ++ count ∷ []
range_more count = sym (map-id (range_with_len 0 (count + 1))) ∙ map-range_with_len_more (λ (j : ℕ). j) 0 count count
    (omega arith) ∙ ap (λ (l : List ℕ). l ++ count ∷ []) (map-id (range_with_len 0 count))
