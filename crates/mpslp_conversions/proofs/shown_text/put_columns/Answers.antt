use Rattle.std.{proofs.Common.{rules, arith}, specs.{List.{enumerate_from}, FinMap.{entries}}}
use Rattle.mpslp_io.proofs.EachLemmas.{puts_each}
use Rattle.mpslp_conversions.{specs.ShownText.{column_text}, proofs.ShownLemmas.{all-numbered}}
use Rattle.mpslp_conversions.proofs.shown_text.put_columns.Goals as goal

pub returns : goal.returns
returns g c =
    let columns = entries c.args.model.now.columns in
    puts_each (column_text c.args.model.now) (enumerate_from 0 columns)
    (λ n within. all-numbered (column_text c.args.model.now) columns n (omega (arith, within)))
    (λ i within x y call. search rules) c.put_each.ensures
