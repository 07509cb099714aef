use Rattle.std.proofs.Common.{arith}
use Rattle.mpslp_lp_grammar.proofs.TokenAnswers.{completes}
use Rattle.mpslp_lp_grammar.proofs.token_step.end_objective_label.Goals as goal

pub returns : goal.returns
returns = grind (arith, completes)
