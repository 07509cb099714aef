use Rattle.std.proofs.Common.{arith}
use Rattle.mpslp_lp_grammar.proofs.Prelude.{◌-◌}
use Rattle.mpslp_lp_grammar.proofs.lp_builder.LpBuilder.declare_terms.Goals as goal

pub invariant_of-self : goal.invariant_of-self
invariant_of-self = grind arith

pub returns-in_err-row_terms : goal.returns-in_err-row_terms
returns-in_err-row_terms = grind arith
