use Rattle.std.proofs.Common.{arith, ◌<◌, ◌^◌}
use Rattle.mpslp_decimal.proofs.StripLemmas.{one-zero-less, zeros-below}
use Rattle.mpslp_decimal.proofs.literal.stripped.Goals as goal

pub overflow_add-zeros : goal.overflow_add-zeros
overflow_add-zeros c =
    let small : c.args.number < 10 ^ 20 = omega arith in
    omega (arith, zeros-below _ _ _ 20 c.loop-mantissa.invariant.value c.loop-mantissa.invariant.some small)

pub loop-mantissa-preserved : goal.loop-mantissa-preserved
loop-mantissa-preserved c = one-zero-less _ _ _ c.loop-mantissa.invariant c.loop-mantissa-test.true
