use Rattle.std.proofs.Common.{length}
use Rattle.mpslp_lp_tokens.proofs.words.+is_word.Given as goal

abbrev pub decreases-is_word : goal.decreases-is_word
decreases-is_word l = length l.text.now
