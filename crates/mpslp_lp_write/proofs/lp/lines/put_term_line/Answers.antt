use Rattle.mpslp_lp_write.proofs.Prelude
use Prelude.{[], ◌∷◌, ◌++◌, codes, is_negative, number_text, sign_bytes, size_of, word, puts_between, prints_line}
use Rattle.mpslp_lp_write.proofs.LpLineTexts.{signed-text}
use Rattle.mpslp_lp_write.proofs.lp.lines.put_term_line.Goals as goal

pub returns : goal.returns
returns g c =
    prints_line (signed-text c.args.value (word c.args.column.now ∷ [])) c.put_header.ensures
    (puts_between (codes "  " ++ (sign_bytes (is_negative c.args.value) ++ codes " ")) (number_text (size_of c.args.value)) (codes " ")
    c.put_signed.ensures c.put_between.ensures)
