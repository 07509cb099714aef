use Rattle.std.proofs.Common.{rules}
use Rattle.mpslp_decimal.proofs.OrderOfValues.{compare-level}
use Rattle.mpslp_decimal.proofs.number.order.compare.Goals as goal

pub returns-then-exponent : goal.returns-then-exponent
returns-then-exponent c = compare-level c.args.left c.args.right c.cmp.result (search rules) (search rules)
    (search rules) (search rules)
