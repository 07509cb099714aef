-- The results of a builder's calls.
use Rattle.std.specs.Prelude.{◌≡◌, ◌≢◌, Bool, List, [], ◌∷◌, Result, Ok, Err, IfErr, MatchResult}
use Rattle.mpslp_types.specs.declared.faults.BuildFault.{BuildFault}
use Rattle.mpslp_types.specs.declared.faults.BuildFault.TheVariants.{OutOfMemory}
use Rattle.mpslp_types.specs.Lists.{those_of}
use Rattle.mpslp_builder.specs.Declaration.{Declaration, Declarations, Draft, with_declaration, with_declarations}
use Rattle.mpslp_builder.specs.Refusal.{refusals}

abbrev pub Answer : Type 0
Answer = Result (Unit {0}) BuildFault

-- A call with errors returns the first of them and changes nothing. A call without errors either declares, or runs out of
-- memory and changes nothing.
abbrev pub Answers : List BuildFault → Answer → Type 0 → Type 0 → Type 0
Answers (fault ∷ later) answer IsDeclared IsUnchanged = (answer ≡ Err fault) × IsUnchanged
Answers [] answer IsDeclared IsUnchanged = MatchResult answer (λ _. IsDeclared) (λ fault. (fault ≡ OutOfMemory) × IsUnchanged)

-- of a call that makes one declaration
abbrev pub AnswersTo : Draft → Declaration → Answer → Draft → Type 0
AnswersTo before declaration answer after = Answers (refusals before declaration) answer (after ≡ with_declaration before declaration) (after ≡ before)

-- of a call that makes several, of which these are the errors
abbrev pub AnswersToAll : List BuildFault → Draft → Declarations → Answer → Draft → Type 0
AnswersToAll faults before declarations answer after = Answers faults answer (after ≡ with_declarations before declarations) (after ≡ before)

-- of a call that allocates nothing
abbrev pub IsNotOutOfMemory : Answer → Type 0
IsNotOutOfMemory answer = IfErr answer (λ fault. fault ≢ OutOfMemory)

-- the first error, or success if there is none
abbrev pub first_refusal : List BuildFault → Answer
first_refusal [] = Ok tt
first_refusal (fault ∷ later) = Err fault

-- the error of the first test that is true, or success if there is none
abbrev pub refused_by : List (Bool × BuildFault) → Answer
refused_by tests = first_refusal (those_of tests)
