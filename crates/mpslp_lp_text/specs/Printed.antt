-- Printed lines: their pieces, and how they are printed.
use Rattle.std.specs.Prelude.{ℕ, Bool, if◌then◌else◌, List, ◌++◌, map, replicate, codes}
use Rattle.mpslp_types.specs.Basics.{join_by, with_line_feeds, Number}
use Rattle.mpslp_decimal.specs.NumberText.{number_text}
use Rattle.mpslp_lp_tokens.specs.declared.relations.Relation.{Relation, TheVariants.AtMost, TheVariants.AtLeast, TheVariants.EqualTo}

pub data Lexeme : Type 0 where
  -- a name, or a word of the language
  word : List ℕ → Lexeme
  -- a name and a colon
  label : List ℕ → Lexeme
  -- a number, with its sign if it is negative
  number : Number → Lexeme
  sign : (minus : Bool) → Lexeme
  sense : Relation → Lexeme
  minus_infinity : Lexeme
  -- the heading of a section, which is read as three tokens
  semi_continuous : Lexeme

-- pieces after this number of spaces
pub record PrintedLine : Type 0 where
  pub indent : ℕ
  pub lexemes : List Lexeme

-- ---- how they are printed

abbrev pub sign_bytes : Bool → List ℕ
sign_bytes minus = if minus then codes "-" else codes "+"

abbrev pub sense_bytes : Relation → List ℕ
sense_bytes AtMost = codes "<="
sense_bytes AtLeast = codes ">="
sense_bytes EqualTo = codes "="

abbrev pub lexeme_text : Lexeme → List ℕ
lexeme_text (word text) = text
lexeme_text (label name) = name ++ codes ":"
lexeme_text (number value) = number_text value
lexeme_text (sign minus) = sign_bytes minus
lexeme_text (sense relation) = sense_bytes relation
lexeme_text minus_infinity = codes "-infinity"
lexeme_text semi_continuous = codes "Semi-Continuous"

-- one space between the pieces
abbrev pub line_text : PrintedLine → List ℕ
line_text line = replicate line.indent 32 ++ join_by lexeme_text (codes " ") line.lexemes

abbrev pub text_of : List PrintedLine → List ℕ
text_of lines = with_line_feeds (map line_text lines)

-- ---- what is read in them
