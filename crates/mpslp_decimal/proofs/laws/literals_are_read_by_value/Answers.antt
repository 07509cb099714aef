use Rattle.mpslp_decimal.proofs.SpellsLemmas.{number-from_spells, spells-from_number}
use Rattle.mpslp_decimal.proofs.laws.literals_are_read_by_value.Goals as goal

pub returns : goal.returns
returns c = λ text d. (spells-from_number text d, number-from_spells text d)
