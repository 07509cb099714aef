use Rattle.mpslp_lp_write.proofs.Prelude
use Prelude.{prints_line}
use Rattle.mpslp_lp_write.proofs.LpLineTexts.{label-text}
use Rattle.mpslp_lp_write.proofs.lp.lines.put_label_line.Goals as goal

pub returns : goal.returns
returns g c =
    prints_line (label-text c.args.name.now) c.put_header.ensures c.put_between.ensures
