use Rattle.std.{proofs.Common.{rules, [], ◌∷◌, arith}, specs.FinMap.{entries}}
use Rattle.mpslp_mps_text.specs.CanonicalMps.{row_line}
use Rattle.mpslp_io.proofs.EachLemmas.{prints_each}
use Rattle.mpslp_mps_write.proofs.mps.rows.put_rows.Goals as goal

pub returns : goal.returns
returns g c =
    prints_each (λ row. row_line row ∷ []) (entries c.args.model.now.rows) (omega arith) (λ i within x y call. search rules)
    c.put_each.ensures
