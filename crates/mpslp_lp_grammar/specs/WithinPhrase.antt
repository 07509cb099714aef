-- The outcome of the tokens of a text from within a phrase on.
use Rattle.std.specs.Prelude.{List}
use Rattle.mpslp_lp_grammar.specs.Rules.{Parsed, Rule, AfterPhrase, Outcome, phrases}
use Rattle.mpslp_lp_grammar.specs.Rules.Parsed.{Reads, Refuses, Unfinished}
use Rattle.mpslp_lp_grammar.specs.Rules.AfterPhrase.{Goes, Ends}
use Rattle.mpslp_lp_grammar.specs.Rules.Outcome.{Finished, Refused, Open}

module _ {T F S D E : Type 0} (phrase : S → T → Rule T F (AfterPhrase S D E)) where
  -- the outcome of a phrase and of the tokens after it
  abbrev pub follow : Parsed F (AfterPhrase S D E) → List T → Outcome F E
  follow (Reads (Goes after made) taken) tokens = phrases phrase after taken tokens
  follow (Reads (Ends whole) taken) tokens = Finished whole
  follow (Refuses fault) tokens = Refused fault
  follow Unfinished tokens = Open

  -- the outcome of the tokens, if the rule reads the rest of a phrase
  abbrev pub resume : Rule T F (AfterPhrase S D E) → List T → Outcome F E
  resume rule tokens = follow (rule tokens) tokens
