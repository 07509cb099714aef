-- The first failing test, if more tests come after it; and tests none of which fails.
use Rattle.std.{proofs.Common.{Bool, [], append_assoc, arith, false, refl, true, ◌++◌, ◌∷◌, ◌≡◌}, specs.{List.list_all, Option.option_or}}
use Rattle.std.specs.Prelude.{None, Some}
use Rattle.mpslp_types.specs.{Lists.those_of, declared.faults.FaultKind.FaultKind}
use Rattle.mpslp_lines.specs.FaultTests.{FaultTests, first_held}

pub held-append : (tests more : FaultTests) → first_held (tests ++ more) ≡ option_or (first_held tests) (first_held more)
held-append [] more = refl
held-append (test ∷ tests) more = grind (arith, held-append tests more)

pub held_some : (tests more : FaultTests) (kind : FaultKind) → first_held tests ≡ Some kind →
    first_held (tests ++ more) ≡ Some kind
held_some = grind (arith, held-append)

pub held_none : (tests more : FaultTests) → first_held tests ≡ None → first_held (tests ++ more) ≡ first_held more
held_none = grind (arith, held-append)

-- tests in three parts, of which the first two are taken together
pub held-third : (tests more last : FaultTests)
    → first_held (tests ++ (more ++ last)) ≡ option_or (first_held (tests ++ more)) (first_held last)
held-third = grind (arith, append_assoc, held-append)

-- a property of the kinds of all tests is a property of the first failing one
pub held-among : (p : FaultKind → Bool) (tests : FaultTests) (kind : FaultKind) → list_all (λ test. p test.1) tests ≡ true
    → first_held tests ≡ Some kind → p kind ≡ true
held-among p [] kind h held = cc
held-among p (test ∷ tests) kind h held = grind (arith, held-among p tests kind)

-- ---- tests none of which fails

pub first_test : (b : Bool) (kind : FaultKind) (more : FaultTests) → those_of ((b, kind) ∷ more) ≡ [] → b ≡ false
first_test = grind arith

pub later_tests : (b : Bool) (kind : FaultKind) (more : FaultTests) → those_of ((b, kind) ∷ more) ≡ [] → those_of more ≡ []
later_tests = grind arith
