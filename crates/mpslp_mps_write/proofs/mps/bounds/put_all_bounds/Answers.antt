use Rattle.std.{proofs.Common.{rules, arith}, specs.FinMap.{entries}}
use Rattle.mpslp_mps_text.specs.CanonicalMps.{column_bound_lines}
use Rattle.mpslp_io.proofs.EachLemmas.{prints_each}
use Rattle.mpslp_mps_write.proofs.mps.bounds.put_all_bounds.Goals as goal

pub returns : goal.returns
returns g c =
    prints_each column_bound_lines (entries c.args.model.now.columns) (omega arith) (λ i within x y call. search rules)
    c.put_each.ensures
