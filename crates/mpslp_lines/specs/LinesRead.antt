-- What a reader returns for further lines.
use Rattle.std.specs.Prelude.{ℕ, List, [], ◌∷◌, ◌++◌, Result, MatchResult}
use Rattle.mpslp_types.specs.declared.faults.Fault.{Fault}
use Rattle.mpslp_types.specs.declared.faults.ReadFault.{ReadFault}
use Rattle.mpslp_types.specs.declared.faults.ReadFault.TheVariants.{File, Failed, OutOfMemory}
use Rattle.mpslp_lines.specs.declared.errors.NumberedError.{NumberedError}
use Rattle.mpslp_lines.specs.LineAnswer.{IsFaultOn}

-- It has read some lines.
pub record IsReader {L : Type 0} (has_read : L → List (List ℕ) → Type 0) (reader : L) : Type 0 where
  pub text : List (List ℕ)
  pub read : has_read reader text

-- One of these lines, read after others, has the first error; or an allocation failed.
abbrev pub RefusesLines : {L : Type 0} → (L → List (List ℕ) → Type 0) → (List (List ℕ) → Fault → Type 0) → L → List (List ℕ) → ReadFault → Type 0
RefusesLines has_read lines_fault old text (File fault) = (before : List (List ℕ)) → has_read old before → lines_fault (before ++ text) fault
RefusesLines has_read lines_fault old text Failed = ⊥
RefusesLines has_read lines_fault old text OutOfMemory = Unit {0}

-- The same for the error of a line with its number.
abbrev pub RefusesLine : {L : Type 0} → (L → List (List ℕ) → Type 0) → (List (List ℕ) → Fault → Type 0) → L → List (List ℕ) → NumberedError → Type 0
RefusesLine has_read lines_fault old text numbered =
    (fault : ReadFault) → IsFaultOn numbered.line numbered.error fault → RefusesLines has_read lines_fault old text fault

-- This line was read after others, or an error is returned.
abbrev pub ReadsNext : {L : Type 0} → (L → List (List ℕ) → Type 0) → (List (List ℕ) → Fault → Type 0) → L → List ℕ → L → Result (Unit {0}) NumberedError → Type 0
ReadsNext has_read lines_fault old line new answer =
    MatchResult answer (λ _. (before : List (List ℕ)) → has_read old before → has_read new (before ++ line ∷ [])) (RefusesLine has_read lines_fault old (line ∷ []))

-- These lines were read after others, or an error is returned.
abbrev pub ReadsOn : {L : Type 0} → (L → List (List ℕ) → Type 0) → (List (List ℕ) → Fault → Type 0) → L → List (List ℕ) → L → Result (Unit {0}) ReadFault → Type 0
ReadsOn has_read lines_fault old text new answer =
    MatchResult answer (λ _. (before : List (List ℕ)) → has_read old before → has_read new (before ++ text)) (RefusesLines has_read lines_fault old text)
