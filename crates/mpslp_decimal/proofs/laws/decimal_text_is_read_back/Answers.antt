use Rattle.mpslp_decimal.proofs.NumberTextLemmas.{number-text}
use Rattle.mpslp_decimal.proofs.laws.decimal_text_is_read_back.Goals as goal

pub returns : goal.returns
returns c = number-text
