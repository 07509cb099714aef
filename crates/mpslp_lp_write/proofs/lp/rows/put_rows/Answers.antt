use Rattle.mpslp_lp_write.proofs.Prelude
use Prelude.{rules, arith, entries, listing_of, row_lines, prints_each}
use Rattle.mpslp_lp_write.proofs.lp.rows.put_rows.Goals as goal

pub returns : goal.returns
returns g c = prints_each (row_lines (listing_of c.args.model.now)) (entries c.args.model.now.rows) (omega arith)
    (λ i within x y call. search rules) c.put_each.ensures
