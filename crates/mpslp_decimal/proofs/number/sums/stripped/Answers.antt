use Rattle.std.proofs.Common.{arith}
use Rattle.mpslp_decimal.proofs.StripLemmas.{one-zero-less, zeros-below}
use Rattle.mpslp_decimal.proofs.number.sums.stripped.Goals as goal

pub overflow_add-zeros : goal.overflow_add-zeros
overflow_add-zeros c =
    omega (arith, zeros-below _ _ _ 39 c.loop-mantissa.invariant.value c.loop-mantissa.invariant.some c.requires.small)

pub loop-mantissa-preserved : goal.loop-mantissa-preserved
loop-mantissa-preserved c = one-zero-less _ _ _ c.loop-mantissa.invariant c.loop-mantissa-test.true

pub returns-clause-zeros : goal.returns-clause-zeros
returns-clause-zeros c = zeros-below _ _ _ 39 c.loop-mantissa.invariant.value c.loop-mantissa.invariant.some c.requires.small
