use Rattle.std.proofs.Common.{arith}
use Rattle.mpslp_builder_parts.proofs.OrderLemmas.{sorted_already}
use Rattle.mpslp_builder_parts.proofs.order.is_in_order.Goals as goal

pub returns : goal.returns
returns g c = λ _. sorted_already c.args.entries.now
    (λ k l. c.loop-number.invariant k (omega (arith, l, c.loop-number-test.false)))
