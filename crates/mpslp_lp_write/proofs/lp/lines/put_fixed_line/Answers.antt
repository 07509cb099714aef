use Rattle.mpslp_lp_write.proofs.Prelude
use Prelude.{[], ◌∷◌, codes, EqualTo, word, number, sense, puts_between, prints_line}
use Rattle.mpslp_lp_write.proofs.LpLineTexts.{line-text}
use Rattle.mpslp_lp_write.proofs.lp.lines.put_fixed_line.Goals as goal

pub returns : goal.returns
returns g c =
    prints_line (line-text 1 (word c.args.column.now) (sense EqualTo ∷ number c.args.value ∷ [])) c.put_header.ensures
    (puts_between (codes " ") c.args.column.now (codes " = ") c.put_between.ensures c.put_number.ensures)
