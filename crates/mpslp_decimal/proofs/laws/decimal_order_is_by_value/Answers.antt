use Rattle.mpslp_decimal.proofs.ExactLaws.{order-by_value}
use Rattle.mpslp_decimal.proofs.laws.decimal_order_is_by_value.Goals as goal

pub returns : goal.returns
returns c = order-by_value
