use Rattle.std.proofs.Common.{List, [], add-one, ap, arith, drop, get_or, length, map, refl, set, slice_index, subst, suc, sym, take, zero}
use Rattle.std.proofs.Common.{ℕ, ◌++◌, ◌+◌, ◌<◌, ◌∙◌, ◌∷◌, ◌≡◌}
use Rattle.mpslp_decimal.specs.Decimal.{Number}
use Rattle.mpslp_builder_parts.proofs.moving.renumbered.Goals as goal

-- the item at the next index gets its new value
step : {X : Type 0} (f : X → X) (xs : List X) (i : ℕ) (d : X) → i < length xs
    → set (map f (take i xs) ++ drop i xs) i (f (get_or (map f (take i xs) ++ drop i xs) i d)) ≡ map f
    (take (suc i) xs) ++ drop (suc i) xs
step f [] i d h = absurd (omega arith)
step f (x ∷ xs) zero d h = refl
step f (x ∷ xs) (suc i) d h = ap (◌∷◌ (f x)) (step f xs i d (omega arith))

stepped : {X : Type 0} (f : X → X) (xs cells : List X) (i j : ℕ) (d : X) → i < length xs → j ≡ suc i
    → cells ≡ map f (take i xs) ++ drop i xs → set cells i (f (get_or cells i d)) ≡ map f (take j xs) ++ drop j xs
stepped f xs cells i j d h next is = ap (λ cells. set cells i (f (get_or cells i d))) is ∙ step f xs i d h
    ∙ ap (λ j. map f (take j xs) ++ drop j xs) (sym next)

pub loop-cell-preserved : goal.loop-cell-preserved
loop-cell-preserved c =
    stepped (λ (cell : ℕ × Number). (slice_index c.args.ranks.now cell.0, cell.1)) c.args.cells.items c.loop-cell.cell-items
    c.loop-cell.cell-index (c.loop-cell.cell-index + 1) c.cell-item.result
    (subst (λ (cells : List (ℕ × Number)). c.loop-cell.cell-index < length cells) c.deref_mut-cell-items.ensures.value
    c.loop-cell-test.true) (add-one c.loop-cell.cell-index) c.loop-cell.invariant
