use Rattle.std.proofs.Common.{arith}
use Rattle.mpslp_mps_fields.proofs.FieldsLemmas.{front-more}
use Rattle.mpslp_mps_fields.proofs.fields.front_fields.Goals as goal

pub loop-preserved : goal.loop-preserved
loop-preserved c = record {
  fields = front-more _ _ _ _ _ _ _ (omega arith) c.push.ensures.items c.in-Some.ensures c.loop.invariant.fields;
  count = omega arith;
}
