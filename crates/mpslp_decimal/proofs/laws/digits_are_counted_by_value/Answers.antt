use Rattle.mpslp_decimal.proofs.SpellsLemmas.{digits-by_value}
use Rattle.mpslp_decimal.proofs.laws.digits_are_counted_by_value.Goals as goal

pub returns : goal.returns
returns c = digits-by_value
