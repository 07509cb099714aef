use Rattle.mpslp_lp_tokens.proofs.SliceLemmas.{lines-joined}
use Rattle.mpslp_lp_tokens.proofs.laws.lines_are_tokens.Goals as goal

pub returns : goal.returns
returns c = lines-joined
