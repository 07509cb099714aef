-- How texts of phrases are read token by token.
use Rattle.mpslp_lp_grammar.proofs.Prelude.{◌≡◌, ℕ, suc, ◌+◌, List, ◌∷◌, arith, Parsed, Rule, after_taking, and_then, ◌>>=◌, gives, next}
use Rattle.mpslp_lp_grammar.proofs.Prelude.{ahead, AfterPhrase, phrases, follow, resume}

one_more : (n : ℕ) → 1 + n ≡ suc n
one_more n = omega arith

none_more : (n : ℕ) → 0 + n ≡ n
none_more n = omega arith

module _ {T F S D E : Type 0} (phrase : S → T → Rule T F (AfterPhrase S D E)) where
  pub follow-passing_one : (reading : Parsed F (AfterPhrase S D E)) (token : T) (tokens : List T)
      → follow phrase (after_taking 1 reading) (token ∷ tokens) ≡ follow phrase reading tokens
  follow-passing_one = grind arith

  -- a rule that takes a token continues after it
  pub resume-next : (following : T → Rule T F (AfterPhrase S D E)) (token : T) (tokens : List T)
      → resume phrase (next >>= following) (token ∷ tokens) ≡ resume phrase (following token) tokens
  resume-next = grind arith

  -- a rule that looks at a token continues before it
  pub resume-ahead : (following : T → Rule T F (AfterPhrase S D E)) (token : T) (tokens : List T)
      → resume phrase (ahead >>= following) (token ∷ tokens) ≡ resume phrase (following token) (token ∷ tokens)
  resume-ahead = grind arith

  pub resume-gives : {A : Type 0} (value : A) (following : A → Rule T F (AfterPhrase S D E)) (tokens : List T)
      → resume phrase (gives value >>= following) tokens ≡ resume phrase (following value) tokens
  resume-gives = grind arith

  -- a phrase begins at a token
  pub phrases-more : (state : S) (token : T) (tokens : List T)
      → phrases phrase state 0 (token ∷ tokens) ≡ resume phrase (phrase state token) tokens
  phrases-more = grind arith

  -- a reading that took one more token
  pub follow-one_more : {A : Type 0} (reading : Parsed F A) (following : A →
      Rule T F (AfterPhrase S D E)) (token : T) (tokens : List T) →
      follow phrase (and_then (after_taking 1 reading) following (token ∷ tokens)) (token ∷ tokens)
      ≡ follow phrase (and_then reading following tokens) tokens
  follow-one_more = grind arith
