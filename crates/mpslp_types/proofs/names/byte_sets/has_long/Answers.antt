use Rattle.std.proofs.Common.{arith, length, ◌-◌}
use Rattle.mpslp_types.specs.ByteSets.{is_in}
use Rattle.mpslp_types.proofs.ByteSetLemmas.{further, overlapping}
use Rattle.mpslp_types.proofs.names.byte_sets.has_long.Goals as goal

pub loop-at-preserved : goal.loop-at-preserved
loop-at-preserved c = record {
  all = further (is_in c.args.set.now) c.args.text.now c.loop-at.at 16 c.loop-at.invariant.all
      (c.has_lanes.ensures c.if-not-has_lanes.false);
  within = omega arith;
}

pub returns : goal.returns
returns c = λ h. overlapping (is_in c.args.set.now) c.args.text.now c.loop-at.at (length c.args.text.now - 16) 16
    (omega arith) (omega arith) c.loop-at.invariant.all (c.has_lanes-2.ensures h)
