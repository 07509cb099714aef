use Rattle.mpslp_lp_write.proofs.Prelude
use Prelude.{[], ◌∷◌, codes, number_text, AtMost, word, number, sense, puts_between, prints_line}
use Rattle.mpslp_lp_write.proofs.LpLineTexts.{line-text}
use Rattle.mpslp_lp_write.proofs.lp.lines.put_between_line.Goals as goal

pub returns : goal.returns
returns g c =
    prints_line (line-text 1 (number c.args.lower)
    (sense AtMost ∷ word c.args.column.now ∷ sense AtMost ∷ number c.args.upper ∷ [])) c.put_header.ensures
    (puts_between (codes " ") (number_text c.args.lower) (codes " <= ") c.put_number.ensures
    (puts_between [] c.args.column.now (codes " <= ") c.put_between.ensures c.put_number-2.ensures))
