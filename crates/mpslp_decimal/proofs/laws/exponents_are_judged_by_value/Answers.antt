use Rattle.mpslp_decimal.proofs.SpellsLemmas.{exponents-by_value}
use Rattle.mpslp_decimal.proofs.laws.exponents_are_judged_by_value.Goals as goal

pub returns : goal.returns
returns c = exponents-by_value
