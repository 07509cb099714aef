use Rattle.mpslp_decimal.proofs.ExactLaws.{sums-exact}
use Rattle.mpslp_decimal.proofs.laws.decimal_sums_are_exact.Goals as goal

pub returns : goal.returns
returns c = sums-exact
