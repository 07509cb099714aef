-- Phrases that are taken as a whole: labels and right-hand sides of rows, bounds, and names that a section lists.
use Rattle.std.specs.Prelude.{◌≡◌, ◌≤◌, ◌⊎◌, List, Some, Result, Ok, Err, length}
use Rattle.mpslp_types.specs.declared.kinds.Limit.{Limit}
use Rattle.mpslp_lines.specs.LineAnswer.{LineResult}
use Rattle.mpslp_lines.specs.declared.errors.LineError.{LineError}
use Rattle.mpslp_lp_tokens.specs.Token.{Token}
use Rattle.mpslp_lp_grammar.specs.declared.signs.Sign.{Sign as SignOf}
use Rattle.mpslp_lp_grammar.specs.declared.signs.Sign.TheVariants.{Plus}
use Rattle.mpslp_lp_tokens.specs.declared.relations.Relation.{Relation}
use Rattle.mpslp_lp_grammar.specs.declared.context.Context.{Context}
use Rattle.mpslp_lp_grammar.specs.declared.states.State.{State}
use Rattle.mpslp_lp_grammar.specs.Terminal.{Terminal}
use Rattle.mpslp_lp_grammar.specs.TerminalToken.{limit_of_terminal}
use Rattle.mpslp_lp_grammar.specs.Declares.{TakesToken}
use Rattle.mpslp_lp.specs.PlainTerm.{Begins}
use Rattle.mpslp_lp.specs.LineByLine.{take_tokens}

-- After this sign the first token gives this limit, and the others follow it.
pub record BeginsWithLimit (found : List Token) (sign : SignOf) (limit : Limit) (more : List Token) : Type 0 where
  pub terminal : Terminal
  pub begins : Begins found terminal more
  pub gives : limit_of_terminal sign terminal ≡ Some limit

-- The tokens begin with a sign or none, and a number or an infinity that then gives this limit, and the others follow.
pub record BeginsWithSide (found : List Token) (limit : Limit) (more : List Token) : Type 0 where
  pub sign : SignOf
  pub after_sign : List Token
  pub signed : Begins found (Terminal.Sign sign) after_sign ⊎ ((sign ≡ Plus) × (after_sign ≡ found))
  pub ends : BeginsWithLimit after_sign sign limit more

-- The tokens begin with this relation and such a side, and the others follow.
pub record BeginsWithRight (found : List Token) (relation : Relation) (limit : Limit) (more : List Token) : Type 0 where
  pub after_relation : List Token
  pub compares : Begins found (Terminal.Compares relation) after_relation
  pub side : BeginsWithSide after_relation limit more

-- Taking some tokens at once, all but these, has the same effect as taking them one after another.
abbrev pub TakesSome : Context → State → List Token → Result (List Token) LineError → Context → State → Type 0
TakesSome context state found (Ok left) after next = (take_tokens after next left ≡ take_tokens context state found) × (length left ≤ length found)
TakesSome context state found (Err error) after next = TakesToken (take_tokens context state found) (Err error) after

-- Taking the tokens before these at once has the same effect as taking them one after another, and leads to this state.
abbrev pub TakesUpTo : Context → State → List Token → LineResult → Context → State → List Token → Type 0
TakesUpTo context state found (Ok _) after next left = take_tokens after next left ≡ take_tokens context state found
TakesUpTo context state found (Err error) after next left = TakesToken (take_tokens context state found) (Err error) after
