use Rattle.mpslp_builder.proofs.Prelude.{◌≡◌, drop, those_of, first_refusal}
use Rattle.mpslp_builder.proofs.builder.queries.refuse.Given as goal

-- the result is that of the remaining tests
abbrev pub invariant-loop-holds : goal.invariant-loop-holds
invariant-loop-holds l = first_refusal (those_of (drop l.holds-index l.tests)) ≡ first_refusal (those_of l.tests)
