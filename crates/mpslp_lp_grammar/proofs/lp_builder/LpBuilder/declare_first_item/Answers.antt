use Rattle.std.proofs.Common.{arith}
use Rattle.mpslp_lp_grammar.proofs.lp_builder.LpBuilder.declare_first_item.Goals as goal

pub returns-in_err-declare_objective : goal.returns-in_err-declare_objective
returns-in_err-declare_objective = grind arith
