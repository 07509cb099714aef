use Rattle.std.{proofs.Common.{ap, not, ◌∙◌}, specs.Ordering.is_lt}
use Rattle.mpslp_decimal.proofs.OrderOfValues.{order-decimal}
use Rattle.mpslp_types.proofs.kinds.is_ordered.Goals as goal

pub returns : goal.returns
returns c =
    ap not (c.is_lt.ensures ∙ ap is_lt (c.cmp.ensures
    ∙ order-decimal c.args.b c.args.a c.each_value_is_a_decimal-2.ensures c.each_value_is_a_decimal.ensures))
