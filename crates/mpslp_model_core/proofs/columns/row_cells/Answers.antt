use Rattle.mpslp_model_core.proofs.ViewLemmas.{rest_after_first, all_rows}
use Rattle.mpslp_model_core.proofs.columns.row_cells.Goals as goal

pub returns-in-len1-up : goal.returns-in-len1-up
returns-in-len1-up c = rest_after_first c.args.cells.now c.first-item.result c.requires c.in-len1-up.len_at_least
    c.first-item.is c.if-first-eq0.true

pub returns-in_default : goal.returns-in_default
returns-in_default c = all_rows c.args.cells.now c.first-item.result c.requires c.in-len1-up.len_at_least
    c.first-item.is c.if-first-eq0.false
