use Rattle.mpslp_io.proofs.OutputLemmas.{puts_then}
use Rattle.mpslp_conversions.proofs.shown_words.put_shown_word.Goals as goal

pub returns : goal.returns
returns g c = puts_then c.put.ensures c.put-2.ensures
