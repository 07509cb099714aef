use Rattle.mpslp_lp_tokens.proofs.SliceLemmas.{tokens-slices}
use Rattle.mpslp_lp_tokens.proofs.laws.tokens_are_slices.Goals as goal

pub returns : goal.returns
returns c = tokens-slices
