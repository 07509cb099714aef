use Rattle.mpslp_lp_write.proofs.Prelude
use Prelude.{prints_line}
use Rattle.mpslp_lp_write.proofs.LpLineTexts.{unlimited-text}
use Rattle.mpslp_lp_write.proofs.lp.lines.put_free_row_line.Goals as goal

pub returns : goal.returns
returns g c =
    prints_line unlimited-text c.put_header.ensures c.put.ensures
