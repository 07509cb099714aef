-- The tests of one literal.
use Rattle.std.proofs.Common.{arith}
use Rattle.mpslp_lp_grammar.proofs.Prelude.{◌≡◌, ℕ, List, [], ◌∷◌, first_held, number_fault, number_tests}

-- the tests of one literal give its error
pub tested-number : (literal : List ℕ) → first_held (number_tests (literal ∷ [])) ≡ number_fault literal
tested-number = grind arith
