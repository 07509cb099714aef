use Rattle.mpslp_lp_write.proofs.Prelude
use Prelude.{[], ◌∷◌, codes, AtLeast, word, number, sense, puts_between, prints_line}
use Rattle.mpslp_lp_write.proofs.LpLineTexts.{line-text}
use Rattle.mpslp_lp_write.proofs.lp.lines.put_lower_bound_line.Goals as goal

pub returns : goal.returns
returns g c =
    prints_line (line-text 1 (word c.args.column.now) (sense AtLeast ∷ number c.args.lower ∷ [])) c.put_header.ensures
    (puts_between (codes " ") c.args.column.now (codes " >= ") c.put_between.ensures c.put_number.ensures)
