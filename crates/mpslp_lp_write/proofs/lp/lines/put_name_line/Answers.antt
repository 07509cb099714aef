use Rattle.mpslp_lp_write.proofs.Prelude
use Prelude.{[], word, prints_line}
use Rattle.mpslp_lp_write.proofs.LpLineTexts.{line-text}
use Rattle.mpslp_lp_write.proofs.lp.lines.put_name_line.Goals as goal

pub returns : goal.returns
returns g c =
    prints_line (line-text 1 (word c.args.column.now) []) c.put_header.ensures c.put_between.ensures
