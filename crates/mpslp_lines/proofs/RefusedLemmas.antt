-- The first error of declarations that the builder rejects.
use Rattle.std.proofs.{Common.{Bool, List, [], arith, map, refl, true, ◌++◌, ◌∷◌, ◌≡◌}, lemmas.List.{append-nil, map-append}}
use Rattle.std.specs.Prelude.{Err, None, Ok}
use Rattle.mpslp_types.specs.{FaultOrder.least_kind, Lists.those_of, declared.faults.BuildFault.BuildFault}
use Rattle.mpslp_builder.{proofs.MadeDrafts.refusals_in_turn-append, specs.{Answer.{Answers, first_refusal}, Declaration.Declaration}}
use Rattle.mpslp_builder.specs.{Declaration.{Declarations, Draft, with_declarations}, Refusal.{refusal_tests, refusals}}
use Rattle.mpslp_lines.{proofs.LeastLemmas.{are_rising, earlier_of, least-append, least-those_of}, specs.Declaring.declared_fault}
use Rattle.mpslp_lines.specs.{ErrorOf.error_of_build, FaultTests.{FaultTests, first_held, kind_of_build_fault}, LineAnswer.IsErrorOf}

abbrev pub RefusalTests : Type 0
RefusalTests = List (Bool × BuildFault)

abbrev pub kind_tests : RefusalTests → FaultTests
kind_tests tests = map (λ test. (test.0, kind_of_build_fault test.1)) tests

-- ---- the kinds of errors

kinds-those_of : (tests : RefusalTests) → map kind_of_build_fault (those_of tests) ≡ those_of (kind_tests tests)
kinds-those_of [] = refl
kinds-those_of (test ∷ tests) = grind (arith, kinds-those_of tests)

-- the least of errors whose tests are in the order of kinds is the first
pub least-refusal : (tests : RefusalTests) → are_rising (kind_tests tests) ≡ true
    → least_kind (map kind_of_build_fault (those_of tests)) ≡ first_held (kind_tests tests)
least-refusal = grind (arith, kinds-those_of, least-those_of)

-- declarations after others
pub declared-append : (xs ys : Declarations) (earlier : Draft)
    → declared_fault earlier (xs ++ ys) ≡ earlier_of (declared_fault earlier xs)
    (declared_fault (with_declarations earlier xs) ys)
declared-append = grind (arith, refusals_in_turn-append, map-append, least-append)

-- the first error of one declaration is that of the first failing test
pub declared-one : (earlier : Draft) (d : Declaration) → are_rising (kind_tests (refusal_tests earlier d)) ≡ true
    → declared_fault earlier (d ∷ []) ≡ first_held (kind_tests (refusal_tests earlier d))
declared-one = grind (arith, append-nil, least-refusal)

-- ---- what a call returns

-- a call that is rejected returns the error of the first failing test, or an allocation failed
pub call-refused : (tests : RefusalTests) (fault : BuildFault) (P Q : Type 0) → Answers (those_of tests) (Err fault) P Q
    → IsErrorOf (first_held (kind_tests tests)) (error_of_build fault)
call-refused [] fault P Q answer = grind arith
call-refused (test ∷ tests) fault P Q answer = grind (arith, call-refused tests fault P Q)

-- of one declaration
pub call-error : (all : Draft) (d : Declaration) (fault : BuildFault) (P Q : Type 0) →
    are_rising (kind_tests (refusal_tests all d)) ≡ true → Answers (refusals all d) (Err fault) P Q →
    IsErrorOf (declared_fault all (d ∷ [])) (error_of_build fault)
call-error = grind (arith, declared-one, call-refused)

-- the check of a declaration returns what the declaration returns, except out of memory
pub check-none : (all : Draft) (d : Declaration) → are_rising (kind_tests (refusal_tests all d)) ≡ true
    → Ok tt ≡ first_refusal (refusals all d) → declared_fault all (d ∷ []) ≡ None
check-none = grind arith

refused_answers : (faults : List BuildFault) (fault : BuildFault) → Err fault ≡ first_refusal faults
    → Answers faults (Err fault) ⊥ (Unit {0})
refused_answers = grind arith

pub check-error : (all : Draft) (d : Declaration) (fault : BuildFault) → are_rising (kind_tests (refusal_tests all d)) ≡ true
    → Err fault ≡ first_refusal (refusals all d)
    → IsErrorOf (declared_fault all (d ∷ [])) (error_of_build fault)
check-error all d fault rising h = call-error all d fault ⊥ _ rising (refused_answers _ fault h)

-- of a check that is defined by its tests
pub tests-none : (tests : RefusalTests) → Ok tt ≡ first_refusal (those_of tests) → first_held (kind_tests tests) ≡ None
tests-none [] h = refl
tests-none (test ∷ tests) h = grind (arith, tests-none tests)

pub tests-error : (tests : RefusalTests) (fault : BuildFault) → Err fault ≡ first_refusal (those_of tests)
    → IsErrorOf (first_held (kind_tests tests)) (error_of_build fault)
tests-error tests fault h = call-refused tests fault ⊥ _ (refused_answers _ fault h)

-- a call that is rejected changes nothing
pub call-unchanged : (faults : List BuildFault) (fault : BuildFault) (P Q : Type 0) → Answers faults (Err fault) P Q → Q
call-unchanged = grind arith
