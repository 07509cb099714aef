use Rattle.mpslp_lp_write.proofs.Prelude
use Prelude.{[], ◌∷◌, codes, word, prints_line}
use Rattle.mpslp_lp_write.proofs.LpLineTexts.{line-text}
use Rattle.mpslp_lp_write.proofs.lp.lines.put_free_column_line.Goals as goal

pub returns : goal.returns
returns g c =
    prints_line (line-text 1 (word c.args.column.now) (word (codes "free") ∷ [])) c.put_header.ensures c.put_between.ensures
