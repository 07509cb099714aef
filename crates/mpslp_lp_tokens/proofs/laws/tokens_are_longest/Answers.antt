use Rattle.mpslp_lp_tokens.proofs.SliceLemmas.{tokens-longest}
use Rattle.mpslp_lp_tokens.proofs.laws.tokens_are_longest.Goals as goal

pub returns : goal.returns
returns c = tokens-longest
