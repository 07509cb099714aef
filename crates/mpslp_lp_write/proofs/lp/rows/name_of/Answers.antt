use Rattle.mpslp_lp_write.proofs.Prelude
use Prelude.{◌+◌, ◌<◌, length, arith, row_name, row_columns}
use Rattle.mpslp_model_core.proofs.ByRowLemmas.{column_below}
use Rattle.mpslp_lp_write.proofs.lp.rows.name_of.Goals as goal

pub column_name-requires : goal.column_name-requires
column_name-requires c =
    let m = c.args.model.now in
    let k = c.args.from + c.args.n in
    let within : k < length (row_columns m (row_name m c.args.i)) =
    omega (arith, c.if-n-row_len.false, c.row_len.ensures, c.requires.within) in
    column_below m c.args.i k _ (c.requires.term within).column
