use Rattle.std.proofs.Common.{arith}
use Rattle.mpslp_lp_grammar.proofs.{Prelude.{◌-◌}, DeclaresLemmas.{refused-unless, rows-kept, bounds-rows}}
use Rattle.mpslp_lp_grammar.proofs.lp_builder.LpBuilder.declare_bounds_given.Goals as goal

pub invariant_of-self : goal.invariant_of-self
invariant_of-self = grind (arith, rows-kept, bounds-rows)

pub returns-in_err-bounds : goal.returns-in_err-bounds
returns-in_err-bounds = grind (arith, refused-unless)
