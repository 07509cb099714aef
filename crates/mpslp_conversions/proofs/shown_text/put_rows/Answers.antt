use Rattle.std.{proofs.Common.{rules, arith}, specs.{List.{enumerate_from}, FinMap.{entries}}}
use Rattle.mpslp_io.proofs.EachLemmas.{puts_each}
use Rattle.mpslp_conversions.{specs.ShownText.{row_text}, proofs.ShownLemmas.{all-numbered}}
use Rattle.mpslp_conversions.proofs.shown_text.put_rows.Goals as goal

pub returns : goal.returns
returns g c =
    let rows = entries c.args.model.now.rows in
    puts_each row_text (enumerate_from 0 rows) (λ n within. all-numbered row_text rows n (omega (arith, within)))
    (λ i within x y call. search rules)
    c.put_each.ensures
