use Rattle.mpslp_lp_sentences.proofs.SentenceFound.{sentences-read}
use Rattle.mpslp_lp_sentences.proofs.laws.lp_sentences_are_read.Goals as goal

pub returns : goal.returns
returns c = sentences-read
