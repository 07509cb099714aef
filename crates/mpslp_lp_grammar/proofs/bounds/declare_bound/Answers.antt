use Rattle.std.proofs.Common.{arith}
use Rattle.mpslp_lp_grammar.proofs.TokenAnswers.{completes}
use Rattle.mpslp_lp_grammar.proofs.bounds.declare_bound.Goals as goal

pub returns : goal.returns
returns = grind (arith, completes)
