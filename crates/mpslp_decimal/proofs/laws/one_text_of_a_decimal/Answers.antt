use Rattle.mpslp_decimal.proofs.NumberTextLemmas.{one-text}
use Rattle.mpslp_decimal.proofs.laws.one_text_of_a_decimal.Goals as goal

pub returns : goal.returns
returns c = one-text
