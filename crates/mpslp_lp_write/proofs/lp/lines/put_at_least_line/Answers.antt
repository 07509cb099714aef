use Rattle.mpslp_lp_write.proofs.Prelude
use Prelude.{[], ◌∷◌, AtLeast, number, sense, prints_line}
use Rattle.mpslp_lp_write.proofs.LpLineTexts.{line-text}
use Rattle.mpslp_lp_write.proofs.lp.lines.put_at_least_line.Goals as goal

pub returns : goal.returns
returns g c =
    prints_line (line-text 2 (sense AtLeast) (number c.args.lower ∷ [])) c.put_header.ensures c.put_number.ensures
