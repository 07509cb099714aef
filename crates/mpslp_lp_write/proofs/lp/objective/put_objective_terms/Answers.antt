use Rattle.mpslp_lp_write.proofs.Prelude
use Prelude.{rules, arith, entries, listing_of, objective_term_lines, prints_each}
use Rattle.mpslp_lp_write.proofs.lp.objective.put_objective_terms.Goals as goal

pub returns : goal.returns
returns g c = prints_each (objective_term_lines (listing_of c.args.model.now)) (entries c.args.model.now.columns)
    (omega arith) (λ i within x y call. search rules) c.put_each.ensures
