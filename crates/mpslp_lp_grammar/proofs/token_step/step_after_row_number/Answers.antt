use Rattle.std.proofs.Common.{arith}
use Rattle.mpslp_lp_grammar.proofs.token_step.step_after_row_number.Goals as goal

pub returns-in_default : goal.returns-in_default
returns-in_default = grind arith
