use Rattle.mpslp_mps_sentences.proofs.WholeText.{text-is_in_words}
use Rattle.mpslp_mps_sentences.proofs.laws.mps_text_is_in_words.Goals as goal

pub returns : goal.returns
returns c = text-is_in_words
