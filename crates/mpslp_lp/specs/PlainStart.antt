-- The start of a row that is taken as a whole: its label and its first term.
use Rattle.std.specs.Prelude.{◌≡◌, ◌⊎◌, ℕ, List, [], ◌∷◌, None}
use Rattle.mpslp_decimal.specs.Decimal.{Number as Decimal}
use Rattle.mpslp_lp_tokens.specs.Token.{Token}
use Rattle.mpslp_lp_grammar.specs.declared.signs.Sign.{Sign as SignOf}
use Rattle.mpslp_lp_grammar.specs.declared.signs.Sign.TheVariants.{Plus}
use Rattle.mpslp_lp_grammar.specs.Items.{one, apply_sign}
use Rattle.mpslp_lp_grammar.specs.PartialRow.{PartialRow}
use Rattle.mpslp_lp_grammar.specs.Terminal.Terminal.{Sign, Number, Name}
use Rattle.mpslp_lp.specs.PlainTerm.{Begins}

-- a row with this name, and this term only
abbrev pub row_of_term : List ℕ → List ℕ → Decimal → PartialRow
row_of_term name column value = record { name = name; left = None; terms = (column, value) ∷ [] }

-- The tokens begin with a number without an error or none, so that it is 1, and a name, and the others follow.
pub record BeginsWithColumn (found : List Token) (size : Decimal) (column : List ℕ) (more : List Token) : Type 0 where
  pub after_number : List Token
  pub number : Begins found (Number size) after_number ⊎ ((size ≡ one) × (after_number ≡ found))
  pub name : Begins after_number (Name column) more

-- The tokens begin with a sign or none, and then a term of this value.
pub record BeginsWithTerm (found : List Token) (value : Decimal) (column : List ℕ) (more : List Token) : Type 0 where
  pub sign : SignOf
  pub size : Decimal
  pub after_sign : List Token
  pub signed : Begins found (Sign sign) after_sign ⊎ ((sign ≡ Plus) × (after_sign ≡ found))
  pub term : BeginsWithColumn after_sign size column more
  pub gives : value ≡ apply_sign sign size
