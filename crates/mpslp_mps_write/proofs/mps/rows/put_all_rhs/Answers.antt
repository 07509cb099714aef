use Rattle.std.{proofs.Common.{rules, arith}, specs.FinMap.{entries}}
use Rattle.mpslp_mps_text.specs.CanonicalMps.{row_rhs_lines}
use Rattle.mpslp_io.proofs.EachLemmas.{prints_each}
use Rattle.mpslp_mps_write.proofs.mps.rows.put_all_rhs.Goals as goal

pub returns : goal.returns
returns g c = prints_each row_rhs_lines (entries c.args.model.now.rows) (omega arith)
    (λ i within x y call. search rules) c.put_each.ensures
