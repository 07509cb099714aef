use Rattle.mpslp_lp_tokens.proofs.SliceLemmas.{tokens-unique}
use Rattle.mpslp_lp_tokens.proofs.laws.longest_are_tokens.Goals as goal

pub returns : goal.returns
returns c = tokens-unique
