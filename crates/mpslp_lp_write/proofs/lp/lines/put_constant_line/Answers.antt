use Rattle.mpslp_lp_write.proofs.Prelude
use Prelude.{[], prints_line}
use Rattle.mpslp_lp_write.proofs.LpLineTexts.{signed-text}
use Rattle.mpslp_lp_write.proofs.lp.lines.put_constant_line.Goals as goal

pub returns : goal.returns
returns g c =
    prints_line (signed-text c.args.value []) c.put_header.ensures c.put_signed.ensures
