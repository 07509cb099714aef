use Rattle.mpslp_lp_write.proofs.Prelude
use Prelude.{[], ◌∷◌, codes, AtMost, word, number, sense, minus_infinity, puts_between, prints_line}
use Rattle.mpslp_lp_write.proofs.LpLineTexts.{line-text}
use Rattle.mpslp_lp_write.proofs.lp.lines.put_upper_bound_line.Goals as goal

pub returns : goal.returns
returns g c =
    prints_line (line-text 1 (minus_infinity)
    (sense AtMost ∷ word c.args.column.now ∷ sense AtMost ∷ number c.args.upper ∷ [])) c.put_header.ensures
    (puts_between (codes " -infinity <= ") c.args.column.now (codes " <= ") c.put_between.ensures c.put_number.ensures)
