use Rattle.std.proofs.Common.{arith}
use Rattle.mpslp_lp_grammar.proofs.laws.texts_end_after_end.Goals as goal

pub returns : goal.returns
returns = grind arith
