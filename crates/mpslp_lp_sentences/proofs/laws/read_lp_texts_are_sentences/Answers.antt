use Rattle.mpslp_lp_sentences.proofs.SentenceFound.{texts-found}
use Rattle.mpslp_lp_sentences.proofs.laws.read_lp_texts_are_sentences.Goals as goal

pub returns : goal.returns
returns c = texts-found
