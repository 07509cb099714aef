use Rattle.std.proofs.{Common.{sym, ap, ◌∙◌, ℕ, [], ◌∷◌, suc, ◌+◌, length, arith}, lemmas.List.length-append}
use Rattle.mpslp_model_core.{specs.ByRow.columns_with, proofs.ByRowLemmas.{cells_rise, columns_and, columns_without}}
use Rattle.mpslp_model_core.proofs.by_row.count_columns_with.Goals.{then-has_value_at, else-has_value_at}
use Rattle.mpslp_model_core.proofs.by_row.count_columns_with.Goals as goal

pub has_value_at-requires : goal.has_value_at-requires
has_value_at-requires c = cells_rise c.args.columns.now c.loop-j.j c.cells_at.result.now c.requires c.cells_at.ensures

pub loop-j-preserved : goal.loop-j-preserved
loop-j-preserved c =
    let columns = c.args.columns.now in
    let n = suc c.args.row in
    let j = c.loop-j.j in
    let cells = c.cells_at.result.now in
    elim c.if-has_value_at.branch [
      | then-has_value_at w ↦
          let more = columns_and columns n j cells c.cells_at.ensures (sym c.has_value_at.ensures ∙ w.if-has_value_at.true) in
          record {
            few = omega arith;
            counted = w.count-is ∙ ap (λ (count : ℕ). count + 1) c.loop-j.invariant.counted
                ∙ sym (ap length more ∙ length-append (columns_with columns n j) (j ∷ []));
          }
      | else-has_value_at w ↦
          let same = columns_without columns n j cells c.cells_at.ensures
          (sym c.has_value_at.ensures ∙ w.if-has_value_at.false) in
          record {
            few = omega arith;
            counted = w.count-is ∙ c.loop-j.invariant.counted ∙ sym (ap length same);
          }
    ]
