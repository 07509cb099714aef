use Rattle.mpslp_model_core.proofs.PlainRowLemmas.{letter_same}
use Rattle.mpslp_model_core.proofs.model_row.letter_of_equal.Goals as goal

pub returns : goal.returns
returns c = letter_same c.args.value.now
