use Rattle.mpslp_lp_tokens.proofs.SliceLemmas.{count-within}
use Rattle.mpslp_lp_tokens.proofs.tokens.tokens_of.Goals as goal

pub returns-clause-count : goal.returns-clause-count
returns-clause-count c = count-within c.args.line.now
