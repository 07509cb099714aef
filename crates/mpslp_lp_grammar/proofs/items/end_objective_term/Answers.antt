use Rattle.std.proofs.Common.{arith}
use Rattle.mpslp_lp_grammar.proofs.items.end_objective_term.Goals as goal

pub returns : goal.returns
returns = grind arith
