use Rattle.std.proofs.Common.{arith}
use Rattle.mpslp_lp_grammar.proofs.rows.declare_row.Goals as goal

pub returns : goal.returns
returns = grind arith
