use Rattle.mpslp_decimal.proofs.OrderOfValues.{same-value}
use Rattle.mpslp_decimal.proofs.laws.one_form_of_a_decimal.Goals as goal

pub returns : goal.returns
returns c = same-value
