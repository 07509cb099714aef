use Rattle.std.proofs.{Common.{sym, ap, ◌∙◌, [], ◌∷◌, suc, length, arith}, lemmas.List.length-append}
use Rattle.mpslp_model_core.{specs.ByRow.columns_with, proofs.ByRowLemmas.{cells_rise, columns_and, columns_without, column_listed}}
use Rattle.mpslp_model_core.proofs.by_row.column_with.Goals.{then-has_value_at+else-left-eq0, else-has_value_at}
use Rattle.mpslp_model_core.proofs.by_row.column_with.Goals as goal

pub has_value_at-requires : goal.has_value_at-requires
has_value_at-requires c = cells_rise c.args.columns.now c.loop-j.j c.cells_at.result.now c.requires.sorted c.cells_at.ensures

pub returns-then-left-eq0 : goal.returns-then-left-eq0
returns-then-left-eq0 c = let first = c.loop-j.invariant in column_listed c.args.columns.now (suc c.args.row) c.loop-j.j c.args.k
    c.cells_at.result.now c.cells_at.ensures (sym c.has_value_at.ensures ∙ c.if-has_value_at.true) (omega arith) (omega arith)

pub loop-j-preserved : goal.loop-j-preserved
loop-j-preserved c =
    let columns = c.args.columns.now in
    let n = suc c.args.row in
    let j = c.loop-j.j in
    let cells = c.cells_at.result.now in
    let first = c.loop-j.invariant in
    elim c.if-has_value_at.branch [
      | then-has_value_at+else-left-eq0 w ↦
          let more = ap length (columns_and columns n j cells c.cells_at.ensures
          (sym c.has_value_at.ensures ∙ w.if-has_value_at.true)) ∙ length-append (columns_with columns n j) (j ∷ []) in
          let left = w.left-is in
          omega arith
      | else-has_value_at w ↦
          let same = ap length
          (columns_without columns n j cells c.cells_at.ensures (sym c.has_value_at.ensures ∙ w.if-has_value_at.false)) in
          let left = w.left-is in
          omega arith
    ]
