use Rattle.std.{proofs.Common.{rules, arith}, specs.FinMap.{entries}}
use Rattle.mpslp_mps_text.specs.CanonicalMps.{column_lines}
use Rattle.mpslp_model_core.specs.Model.{listing_of}
use Rattle.mpslp_mps_write.specs.MpsLinesAt.{of_part}
use Rattle.mpslp_io.proofs.EachLemmas.{prints_each}
use Rattle.mpslp_mps_write.proofs.mps.columns.put_columns.Goals as goal

pub returns : goal.returns
returns g c =
    prints_each (of_part c.args.part (column_lines (listing_of c.args.model.now))) (entries c.args.model.now.columns)
    (omega arith) (λ i within x y call. search rules) c.put_each.ensures
