use Rattle.mpslp_lp_write.proofs.Prelude
use Prelude.{rules, arith, entries, bound_lines, prints_each}
use Rattle.mpslp_lp_write.proofs.lp.bounds.put_all_bounds.Goals as goal

pub returns : goal.returns
returns g c = prints_each bound_lines (entries c.args.model.now.columns) (omega arith)
    (λ i within x y call. search rules) c.put_each.ensures
