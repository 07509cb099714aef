use Rattle.mpslp_lp_write.proofs.Prelude
use Prelude.{row_name, row_columns, numbered_term_lines, flat_map-next, prints_then, prints_same}
use Rattle.mpslp_model_core.proofs.ByRowLemmas.{column_below}
use Rattle.mpslp_lp_write.proofs.lp.rows.put_few_terms.Goals as goal

pub column_name-requires : goal.column_name-requires
column_name-requires g c = column_below c.args.model.now c.args.i c.loop-k.k _ c.row_entry-term.ensures.column

pub loop-k-preserved : goal.loop-k-preserved
loop-k-preserved g c =
    let m = c.args.model.now in
    let row = row_name m c.args.i in
    prints_same (flat_map-next (numbered_term_lines m row) (row_columns m row) c.loop-k.k)
    (prints_then c.loop-k.invariant c.put_term.ensures)
