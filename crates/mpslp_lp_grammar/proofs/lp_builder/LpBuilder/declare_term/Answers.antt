use Rattle.std.proofs.Common.{arith}
use Rattle.mpslp_lp_grammar.proofs.Prelude.{◌-◌}
use Rattle.mpslp_lp_grammar.proofs.lp_builder.LpBuilder.declare_term.Goals as goal

pub invariant_of-self : goal.invariant_of-self
invariant_of-self = grind arith

pub returns-in_err-row_term : goal.returns-in_err-row_term
returns-in_err-row_term = grind arith
