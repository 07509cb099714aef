use Rattle.std.proofs.Common.{rules}
use Rattle.mpslp_decimal.proofs.OrderOfValues.{compare-left, compare-right}
use Rattle.mpslp_decimal.proofs.number.order.compare_apart.Goals as goal

pub returns-then-exponent : goal.returns-then-exponent
returns-then-exponent c =
    compare-left c.args.left c.args.right c.compare_shifted.result c.abs_diff-places.result (search rules)
    (search rules) (search rules) (search rules) (search rules)

pub returns-else-exponent : goal.returns-else-exponent
returns-else-exponent c =
    compare-right c.args.left c.args.right c.reverse.result c.compare_shifted-else-exponent.result
    c.abs_diff-places.result (search rules) (search rules) (search rules) (search rules) (search rules) (search rules)
