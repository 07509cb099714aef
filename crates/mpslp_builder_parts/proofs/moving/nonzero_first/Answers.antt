use Rattle.std.proofs.Common.{arith, ap, subst, sym, length, ◌≡◌, ◌∙◌, ◌<◌, ◌+◌, ℕ, suc, List, not}
use Rattle.std.proofs.lemmas.List.{Edits.length-swap}
use Rattle.mpslp_decimal.specs.Decimal.{Number, is_zero}
use Rattle.mpslp_model_core.specs.Numbered.{is_kept}
use Rattle.mpslp_builder_parts.proofs.KeptLemmas.{AreKept, none_kept, left_out, put_in, take_alike, drop_alike}
use Rattle.mpslp_builder_parts.proofs.moving.nonzero_first.Goals.{then-not-is_zero, else-not-is_zero}
use Rattle.mpslp_builder_parts.proofs.moving.nonzero_first.Goals as goal

pub loop-at-init : goal.loop-at-init
loop-at-init c = none_kept is_kept c.args.cells.items c.args.start

pub loop-at-preserved : goal.loop-at-preserved
loop-at-preserved c =
    let below : c.loop-at.at < length c.args.cells.items = (let inside = c.loop-at-test.true in
    let room = c.requires.1 in omega (arith, inside, room)) in
    let more : suc c.loop-at.kept ≡ c.loop-at.kept + 1 = omega arith in
    let next : c.loop-at.at + 1 ≡ suc c.loop-at.at = omega arith in
    elim c.if-not-is_zero.branch [
      | then-not-is_zero w ↦
          subst (λ (s : (ℕ × ℕ) × List (ℕ × Number)). AreKept is_kept c.args.cells.items c.args.start s.0.0 s.0.1 s.1)
          (λ i. (((more ∙ sym w.kept-is) i, sym next i), (sym w.cells-is i).items))
          (put_in is_kept c.args.cells.items c.args.start c.loop-at.kept c.loop-at.at c.loop-at.cells.items
          c.loop-at.invariant below c.index.result.now c.index.ensures
          (ap not (ap is_zero (sym c.value.ensures) ∙ sym w.if-not-is_zero.ensures)) w.swap.new.self.items
          (ap length w.swap.ensures.items ∙ length-swap c.loop-at.cells.items c.loop-at.kept c.loop-at.at)
          w.swap.ensures.by_index)
      | else-not-is_zero w ↦
          subst (λ (s : (ℕ × ℕ) × List (ℕ × Number)). AreKept is_kept c.args.cells.items c.args.start s.0.0 s.0.1 s.1)
          (λ i. ((sym w.kept-is i, sym next i), (sym w.cells-is i).items))
          (left_out is_kept c.args.cells.items c.args.start c.loop-at.kept c.loop-at.at c.loop-at.cells.items
          c.loop-at.invariant below c.index.result.now c.index.ensures
          (ap not (ap is_zero (sym c.value.ensures) ∙ sym w.if-not-is_zero.ensures)))
    ]

pub returns-clause-before : goal.returns-clause-before
returns-clause-before c = take_alike c.args.start c.loop-at.cells.items c.args.cells.items c.loop-at.invariant.len
    c.loop-at.invariant.before

pub returns-clause-after : goal.returns-clause-after
returns-clause-after c =
    drop_alike c.args.end c.loop-at.cells.items c.args.cells.items c.loop-at.invariant.len
    (λ r d over. let end = c.loop-at.auto.at-end in c.loop-at.invariant.after r d (omega (arith, over, end)))
