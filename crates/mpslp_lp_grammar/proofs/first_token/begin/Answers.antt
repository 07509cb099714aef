use Rattle.std.proofs.Common.{arith}
use Rattle.mpslp_lp_grammar.proofs.OtherTokens.{begun-other}
use Rattle.mpslp_lp_grammar.proofs.first_token.begin.Goals as goal

pub returns : goal.returns
returns = grind (arith, begun-other)
