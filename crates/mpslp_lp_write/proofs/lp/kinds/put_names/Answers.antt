use Rattle.mpslp_lp_write.proofs.Prelude
use Prelude.{rules, arith, entries, name_lines, prints_each}
use Rattle.mpslp_lp_write.proofs.lp.kinds.put_names.Goals as goal

pub returns : goal.returns
returns g c = prints_each (name_lines c.args.section) (entries c.args.model.now.columns) (omega arith)
    (λ i within x y call. search rules) c.put_each.ensures
