-- Terms of rows that are taken as a whole: one sign, an optional number and a name.
use Rattle.std.specs.Prelude.{◌≡◌, ◌⊎◌, ℕ, List, ◌∷◌, None, Result, Ok, Err, codes}
use Rattle.mpslp_types.specs.Name.{IsMpsName}
use Rattle.mpslp_lines.specs.declared.errors.LineError.{LineError}
use Rattle.mpslp_lp_grammar.specs.declared.signs.Sign.{Sign as SignOf}
use Rattle.mpslp_lp_grammar.specs.PartialRow.{PartialRow}
use Rattle.mpslp_lp_tokens.specs.Token.{Token}
use Rattle.mpslp_lp_grammar.specs.Terminal.{Terminal, token_fault}
use Rattle.mpslp_lp_grammar.specs.TerminalToken.{as_terminal}
use Rattle.mpslp_lp_grammar.specs.Terminal.Terminal.{Sign, Name}
use Rattle.mpslp_lp.specs.LineByLine.{take_tokens}
use Rattle.mpslp_lp_grammar.specs.Declares.{TakesToken}
use Rattle.mpslp_decimal.specs.Decimal.{Number as Decimal}
use Rattle.mpslp_lp_grammar.specs.Items.{one, apply_sign}
use Rattle.mpslp_lp_grammar.specs.AfterToken.{AfterToken, Goes}
use Rattle.mpslp_lp_grammar.specs.TokenStep.{step}
use Rattle.mpslp_lp_grammar.specs.declared.context.Context.{Context}
use Rattle.mpslp_lp_grammar.specs.declared.states.Place.TheVariants.{InRow}
use Rattle.mpslp_lp_grammar.specs.declared.states.State.TheVariants.{Between}
use Rattle.mpslp_lp_grammar.specs.declared.states.State.{State}
use Rattle.mpslp_lp_tokens.specs.declared.tokens.TokenKind.TheVariants as kinds

-- The first token is this terminal, without an error of its own, and the others follow it.
pub record Begins (found : List Token) (terminal : Terminal) (more : List Token) : Type 0 where
  pub token : Token
  pub tokens : found ≡ token ∷ more
  pub sound : token_fault token.kind token.text ≡ None
  pub is : as_terminal token ≡ terminal

-- The first token is a number of this text, which may have an error of its own, and the others follow it.
pub record BeginsWithNumber (found : List Token) (literal : List ℕ) (more : List Token) : Type 0 where
  pub token : Token
  pub tokens : found ≡ token ∷ more
  pub kind : token.kind ≡ kinds.Number
  pub text : token.text ≡ literal

-- The tokens begin with a number and a name, or with a name only, so that the number is 1, and the others follow.
pub record IsUnsignedTerm (found : List Token) (literal column : List ℕ) (more : List Token) : Type 0 where
  pub after_number : List Token
  pub number : BeginsWithNumber found literal after_number ⊎ ((literal ≡ codes "1") × (after_number ≡ found))
  pub name : Begins after_number (Name column) more
  pub legal : IsMpsName column

-- The tokens begin with a sign and such a term, and the others follow.
pub record IsPlainTerm (found : List Token) (first : SignOf) (literal column : List ℕ) (more : List Token) : Type 0 where
  pub after_sign : List Token
  pub sign : Begins found (Sign first) after_sign
  pub term : IsUnsignedTerm after_sign literal column more

-- From this state a sign, a number or none, and a name of a term lead to what is taken for the value of the term.
pub record LeadsTo (context : Context) (start : State) (first : SignOf) (column : List ℕ) (taken : Decimal → AfterToken) : Type 0 where
  pub signs : State
  pub numbered : Decimal → State
  pub to_signs : step context start (Terminal.Sign first) ≡ Goes context signs
  pub to_number : (value : Decimal) → step context signs (Terminal.Number value) ≡ Goes context (numbered value)
  pub to_name : (value : Decimal) → step context (numbered value) (Terminal.Name column) ≡ taken (apply_sign first value)
  pub unnumbered : step context signs (Terminal.Name column) ≡ taken (apply_sign first one)

-- Taking some tokens of a row at once has the same effect as taking them one after another.
abbrev pub TakesInRow : Context → PartialRow → List Token → Result PartialRow LineError → List Token → Type 0
TakesInRow context row found (Ok longer) left = take_tokens context (Between (InRow longer)) left ≡ take_tokens context (Between (InRow row)) found
TakesInRow context row found (Err error) left = TakesToken (take_tokens context (Between (InRow row)) found) (Err error) context
