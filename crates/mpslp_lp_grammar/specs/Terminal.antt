-- What the grammar of LP text sees of a token, and the errors of a line on its own, whatever comes before it.
use Rattle.std.specs.Prelude.{ℕ, List, [], ◌∷◌, ◌++◌, map, filter_map, Option, Some, None}
use Rattle.mpslp_types.specs.Basics.{Number as Decimal, is_like_exponent, least_kind}
use Rattle.mpslp_types.specs.declared.faults.FaultKind.{FaultKind, TheVariants.NameLikeExponent, TheVariants.Sos, TheVariants.Quadratic, TheVariants.Indicator}
use Rattle.mpslp_lines.specs.FaultTests.{value_of, first_held, legal_tests, name_tests, number_fault}
use Rattle.mpslp_lp_tokens.specs.Token.{Token, tokens, outside_comment, class_of}
pub use Rattle.mpslp_lp_grammar.specs.declared.{signs.Sign.Sign as SignOf, signs.Sign.TheVariants.Plus, signs.Sign.TheVariants.Minus}
pub use Rattle.mpslp_lp_tokens.specs.declared.relations.Relation.{Relation, TheVariants.AtMost, TheVariants.AtLeast, TheVariants.EqualTo}
use Rattle.mpslp_lp_tokens.specs.declared.{tokens.TokenKind.TokenKind, words.SectionWord.SectionWord, words.WordClass.WordClass}
use Rattle.mpslp_lp_tokens.specs.declared.tokens.TokenKind.TheVariants as kinds
use Rattle.mpslp_lp_tokens.specs.declared.words.WordClass.TheVariants as words

pub data Terminal : Type 0 where
  Opens : SectionWord → Terminal
  Name : List ℕ → Terminal
  Number : Decimal → Terminal
  Sign : (sign : SignOf) → Terminal
  Compares : Relation → Terminal
  Colon : Terminal
  Infinity : Terminal
  Free : Terminal
  -- no rule accepts it
  Other : Terminal

abbrev pub word_terminal : List ℕ → WordClass → Terminal
word_terminal text (words.Opens word) = Opens word
word_terminal text words.Infinity = Infinity
word_terminal text words.Free = Free
word_terminal text words.Name = Name text
word_terminal text _ = Other

abbrev pub terminal_of : TokenKind → List ℕ → Terminal
terminal_of kinds.Word text = word_terminal text (class_of text)
terminal_of kinds.Number text = Number (value_of text)
terminal_of kinds.Less text = Compares AtMost
terminal_of kinds.Greater text = Compares AtLeast
terminal_of kinds.Equal text = Compares EqualTo
terminal_of kinds.Colon text = Colon
terminal_of kinds.Plus text = Sign Plus
terminal_of kinds.Minus text = Sign Minus
terminal_of _ text = Other

-- a terminal, and the number of its line
pub record TerminalAt : Type 0 where
  pub line : ℕ
  pub terminal : Terminal

-- the terminals of a line, with its number
abbrev pub line_terminals : ℕ × List ℕ → List TerminalAt
line_terminals line = map (λ (token : Token). record { line = line.0; terminal = terminal_of token.kind token.text }) (tokens line.1)

-- ---- the errors of a line on its own

-- a name is legal in MPS and is not like an exponent; each byte of a word is legal in a name
abbrev pub name_fault : List ℕ → Option FaultKind
name_fault name = first_held (name_tests name ++ (is_like_exponent name, NameLikeExponent) ∷ [])

abbrev pub word_fault : List ℕ → WordClass → Option FaultKind
word_fault text words.Sos = Some Sos
word_fault text words.Name = name_fault text
word_fault text _ = None

-- the first error of a token, whatever its position
abbrev pub token_fault : TokenKind → List ℕ → Option FaultKind
token_fault kinds.Word text = word_fault text (class_of text)
token_fault kinds.Number text = number_fault text
token_fault kinds.OpenBracket text = Some Quadratic
token_fault kinds.CloseBracket text = Some Quadratic
token_fault kinds.Caret text = Some Quadratic
token_fault kinds.Star text = Some Quadratic
token_fault kinds.DoubleColon text = Some Sos
token_fault kinds.Arrow text = Some Indicator
token_fault _ text = None

-- the least over all tokens; the length and the bytes of the line are checked first
abbrev pub lexical_fault : List ℕ → Option FaultKind
lexical_fault line = elim (first_held (legal_tests line (outside_comment line))) [
  | Some kind ↦ Some kind
  | None ↦ least_kind (filter_map (λ (token : Token). token_fault token.kind token.text) (tokens line))
]
