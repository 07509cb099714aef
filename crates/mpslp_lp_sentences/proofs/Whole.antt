-- What complete tokens declare, phrase by phrase: the outcome and the declarations of the grammar by rules in one.
use Rattle.mpslp_lp_sentences.proofs.Prelude
use Prelude.{◌≡◌, refl, ℕ, zero, suc, List, [], ◌∷◌, ◌++◌, true, arith, Option, Some, None, if◌then◌else◌, Declarations, Draft, Fault}
use Prelude.{Parsed, after_taking, and_then, ◌>>=◌, ahead, Outcome, phrases, made_by, Finished, Refused, Open, TerminalAt, Point}
use Prelude.{PhraseRule, Follows, phrase_at, is_finished}
use Rattle.mpslp_lp_grammar.specs.Rules.Parsed.{Reads, Refuses, Unfinished}
use Rattle.mpslp_lp_grammar.specs.Rules.AfterPhrase.{Goes, Ends}

abbrev pub Tokens : Type 0
Tokens = List TerminalAt

-- these declarations and those of the rest, if it is complete
abbrev pub preceded : Declarations → Option Declarations → Option Declarations
preceded made None = None
preceded made (Some more) = Some (made ++ more)

-- the declarations of the phrases from a point on, if they are complete
abbrev pub whole : Point → ℕ → Tokens → Option Declarations
whole point taken [] = None
whole point (suc taken) (token ∷ tokens) = whole point taken tokens
whole point zero (token ∷ tokens) = elim (phrase_at point token tokens) [
  | Reads (Goes after made) more ↦ preceded made (whole after more tokens)
  | Reads (Ends all) more ↦ Some []
  | Refuses fault ↦ None
  | Unfinished ↦ None
]

-- the same after what a rule has read
abbrev pub heard : Parsed Fault Follows → Tokens → Option Declarations
heard (Reads (Goes after made) taken) tokens = preceded made (whole after taken tokens)
heard (Reads (Ends all) taken) tokens = Some []
heard (Refuses fault) tokens = None
heard Unfinished tokens = None

-- the same from a rule on
abbrev pub listened : PhraseRule Follows → Tokens → Option Declarations
listened rule tokens = heard (rule tokens) tokens

-- ---- with the outcome and the declarations of the grammar

abbrev joined : Outcome Fault Draft → Declarations → Option Declarations
joined outcome made = if is_finished outcome then Some made else None

whole-joined : (tokens : Tokens) (taken : ℕ) (point : Point)
    → whole point taken tokens ≡ joined (phrases phrase_at point taken tokens) (made_by phrase_at point taken tokens)
whole-joined [] _ _ = refl
whole-joined (token ∷ tokens) (suc taken) _ = whole-joined tokens taken _
whole-joined (token ∷ tokens) zero point = by _ (λ after more. whole-joined tokens more _)
  where
    by : (reading : Parsed Fault Follows) →
        ((after : Point) (more : ℕ) → whole after more tokens ≡ joined (phrases phrase_at after more tokens)
        (made_by phrase_at after more tokens)) → (elim reading as (λ _. Option Declarations) [
          | Reads (Goes after made) more ↦ preceded made (whole after more tokens)
          | Reads (Ends all) more ↦ Some []
          | Refuses fault ↦ None
          | Unfinished ↦ None
        ])
        ≡ joined (elim reading as (λ _. Outcome Fault Draft) [
          | Reads (Goes after made) more ↦ phrases phrase_at after more tokens
          | Reads (Ends all) more ↦ Finished all
          | Refuses fault ↦ Refused fault
          | Unfinished ↦ Open
        ]) (elim reading as (λ _. Declarations) [
          | Reads (Goes after made) more ↦ made ++ made_by phrase_at after more tokens
          | Reads (Ends all) more ↦ []
          | Refuses fault ↦ []
          | Unfinished ↦ []
        ])
    by = grind arith

-- complete tokens that declare these
pub finished-from_whole : (tokens : Tokens) (point : Point) (made : Declarations) → whole point 0 tokens ≡ Some made
    → (is_finished (phrases phrase_at point 0 tokens) ≡ true) × (made_by phrase_at point 0 tokens ≡ made)
finished-from_whole = grind (arith, whole-joined)

pub whole-from_finished : (tokens : Tokens) (point : Point)
    → is_finished (phrases phrase_at point 0 tokens) ≡ true → whole point 0 tokens ≡ Some (made_by phrase_at point 0 tokens)
whole-from_finished = grind (arith, whole-joined)

-- ---- how rules listen

heard-one_more : (reading : Parsed Fault Follows) (token : TerminalAt) (tokens : Tokens) →
    heard (after_taking 1 reading) (token ∷ tokens) ≡ heard reading tokens
heard-one_more = grind arith

heard-none_more : (reading : Parsed Fault Follows) (tokens : Tokens) →
    heard (after_taking 0 reading) tokens ≡ heard reading tokens
heard-none_more = grind arith

pub listened-ahead : (following : TerminalAt → PhraseRule Follows) (token : TerminalAt) (tokens : Tokens)
    → listened (ahead >>= following) (token ∷ tokens) ≡ listened (following token) (token ∷ tokens)
listened-ahead = grind arith

-- a reading that took one token
pub listened-one : (reading : Parsed Fault Follows) (token : TerminalAt) (tokens : Tokens) →
    heard (after_taking 1 reading) (token ∷ tokens) ≡ heard reading tokens
listened-one = heard-one_more

pub listened-none : (reading : Parsed Fault Follows) (tokens : Tokens) →
    heard (after_taking 0 reading) tokens ≡ heard reading tokens
listened-none = heard-none_more

-- a reading that took one token more
pub heard-later : {A : Type 0} (reading : Parsed Fault A) (following : A →
    PhraseRule Follows) (token : TerminalAt) (tokens : Tokens) →
    heard (and_then (after_taking 1 reading) following (token ∷ tokens)) (token ∷ tokens) ≡ heard
    (and_then reading following tokens) tokens
heard-later reading following token tokens = grind arith
