use Rattle.mpslp_lp_write.proofs.Prelude
use Prelude.{[], ◌∷◌, EqualTo, number, sense, prints_line}
use Rattle.mpslp_lp_write.proofs.LpLineTexts.{line-text}
use Rattle.mpslp_lp_write.proofs.lp.lines.put_equal_line.Goals as goal

pub returns : goal.returns
returns g c =
    prints_line (line-text 2 (sense EqualTo) (number c.args.value ∷ [])) c.put_header.ensures c.put_number.ensures
