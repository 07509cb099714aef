use Rattle.mpslp_builder_parts.proofs.OrderLemmas.{AreMoved}
use Rattle.mpslp_builder_parts.proofs.order.in_order.Given as goal

abbrev pub invariant-loop-place : goal.invariant-loop-place
invariant-loop-place g l = AreMoved l.fn.items.items l.order l.place l.items.items l.numbers.items l.places.items
