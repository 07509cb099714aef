-- The tokens of a line of LP text, and the meanings of reserved words.
use Rattle.std.specs.Prelude.{ℕ, zero, suc, ◌+◌, ◌-◌, ◌==◌, Bool, true, false, ◌&&◌, ◌||◌, not, List, [], ◌∷◌, ◌++◌, length, map, take, zip, codes, Option, Some, None}
use Rattle.mpslp_types.specs.Basics.{list_all, find, before_first, option_map_or, option_map, is_literal, same_bytes, begins_a_number, is_letter, is_lp_symbol, is_lp_byte, lower_byte}
use Rattle.mpslp_lp_tokens.specs.declared.tokens.TokenKind.{TokenKind, TheVariants.Word, TheVariants.Number, TheVariants.Less, TheVariants.Greater, TheVariants.Equal, TheVariants.DoubleColon, TheVariants.Colon, TheVariants.Arrow, TheVariants.Plus, TheVariants.Minus, TheVariants.OpenBracket, TheVariants.CloseBracket, TheVariants.Caret, TheVariants.Star, TheVariants.Period, TheVariants.Unknown}
use Rattle.mpslp_lp_tokens.specs.declared.words.{Section.Section, SectionWord.SectionWord, SectionWord.TheVariants.Minimize, SectionWord.TheVariants.Maximize, SectionWord.TheVariants.Rows, SectionWord.TheVariants.Subject, SectionWord.TheVariants.Such, SectionWord.TheVariants.Bounds, SectionWord.TheVariants.Generals, SectionWord.TheVariants.Binaries, SectionWord.TheVariants.Semi, SectionWord.TheVariants.Semis, SectionWord.TheVariants.End, WordClass.WordClass, WordClass.TheVariants.Opens, WordClass.TheVariants.Infinity, WordClass.TheVariants.Free, WordClass.TheVariants.Sos, WordClass.TheVariants.Name}
use Rattle.mpslp_lp_tokens.specs.declared.words.Section.TheVariants as sections

-- a space or a tab
abbrev pub is_blank : ℕ → Bool
is_blank byte = byte == 32 || byte == 9

-- a backslash begins a comment, up to the end of the line
abbrev pub begins_comment : ℕ → Bool
begins_comment byte = byte == 92

abbrev pub is_period : ℕ → Bool
is_period byte = byte == 46

-- a word begins with a letter or a symbol of LP names other than the period
abbrev pub begins_word : ℕ → Bool
begins_word byte = is_letter byte || (is_lp_symbol byte && not (is_period byte))

-- it continues with letters, digits and all symbols of LP names
abbrev pub continues_word : ℕ → Bool
continues_word byte = is_lp_byte byte

-- what is before a comment
abbrev pub outside_comment : List ℕ → List ℕ
outside_comment line = before_first begins_comment line

-- ---- the kind of a whole text

abbrev pub is_word : List ℕ → Bool
is_word [] = false
is_word (byte ∷ bytes) = begins_word byte && list_all continues_word bytes

-- a number is a literal without a sign
abbrev pub is_number : List ℕ → Bool
is_number text = elim (begins_a_number text) [ true ↦ is_literal text | false ↦ false ]

-- operators of one byte; a period is one if it begins no number, and no rule accepts it
abbrev pub one_byte_operators : List (ℕ × TokenKind)
one_byte_operators = zip (codes "<>=:+-[]^*.")
    (Less ∷ Greater ∷ Equal ∷ Colon ∷ Plus ∷ Minus ∷ OpenBracket ∷ CloseBracket ∷ Caret ∷ Star ∷ Period ∷ [])

-- operators of two bytes
abbrev pub two_byte_operators : List (List ℕ × TokenKind)
two_byte_operators =
    (codes "<=", Less) ∷ (codes "=<", Less) ∷ (codes ">=", Greater) ∷ (codes "=>", Greater)
    ∷ (codes "::", DoubleColon) ∷ (codes "->", Arrow) ∷ []

abbrev pub operator_kind : List ℕ → Option TokenKind
operator_kind (first ∷ []) = option_map (λ (entry : ℕ × TokenKind). entry.1) (find (λ entry. entry.0 == first) one_byte_operators)
operator_kind (first ∷ second ∷ []) =
    option_map (λ (entry : List ℕ × TokenKind). entry.1) (find (λ entry. same_bytes entry.0 (first ∷ second ∷ [])) two_byte_operators)
operator_kind _ = None

-- the kind of token that a whole text is, if it is one
abbrev pub kind_of : List ℕ → Option TokenKind
kind_of text = elim (is_word text) [
  | true ↦ Some Word
  | false ↦ elim (is_number text) [ true ↦ Some Number | false ↦ operator_kind text ]
]

-- ---- the longest token at a position

-- a prefix of the bytes that is a token: its kind and its length
pub record Front : Type 0 where
  pub kind : TokenKind
  pub size : ℕ

-- the longest prefix of at most this size that is a token
abbrev pub longest_within : ℕ → List ℕ → Option Front
longest_within zero bytes = None
longest_within (suc size) bytes = elim (kind_of (take (suc size) bytes)) [
  | Some kind ↦ Some (record { kind = kind; size = suc size })
  | None ↦ longest_within size bytes
]

abbrev pub longest_token : List ℕ → Option Front
longest_token bytes = longest_within (length bytes) bytes

-- if no token begins here, one byte is an unknown token
abbrev pub token_at : List ℕ → Front
token_at bytes = elim (longest_token bytes) [ Some front ↦ front | None ↦ record { kind = Unknown; size = 1 } ]

-- ---- the tokens of a line

pub record Token : Type 0 where
  pub kind : TokenKind
  pub start : ℕ
  pub text : List ℕ

-- From a position on, after bytes that a token has taken: spaces and tabs separate tokens, a backslash begins the comment,
-- and each token is the longest at its position.
abbrev pub tokens_from : ℕ → ℕ → List ℕ → List Token
tokens_from place taken [] = []
tokens_from place (suc taken) (byte ∷ bytes) = tokens_from (place + 1) taken bytes
tokens_from place zero (byte ∷ bytes) = elim (begins_comment byte) [
  | true ↦ []
  | false ↦ elim (is_blank byte) [
    | true ↦ tokens_from (place + 1) zero bytes
    | false ↦
        let front = token_at (byte ∷ bytes) in
        record { kind = front.kind; start = place; text = take front.size (byte ∷ bytes) }
        ∷ tokens_from (place + 1) (front.size - 1) bytes
  ]
]

abbrev pub tokens : List ℕ → List Token
tokens line = tokens_from 0 0 line

-- ---- reserved words

abbrev all_of_class : WordClass → List (List ℕ) → List (List ℕ × WordClass)
all_of_class word_class words = map (λ word. (word, word_class)) words

-- the reserved words, in lower case
abbrev pub word_classes : List (List ℕ × WordClass)
word_classes =
    all_of_class (Opens Minimize) (codes "min" ∷ codes "minimize" ∷ codes "minimum" ∷ [])
    ++ all_of_class (Opens Maximize) (codes "max" ∷ codes "maximize" ∷ codes "maximum" ∷ [])
    ++ all_of_class (Opens Subject) (codes "subject" ∷ [])
    ++ all_of_class (Opens Such) (codes "such" ∷ [])
    ++ all_of_class (Opens Rows) (codes "st" ∷ codes "s.t." ∷ codes "st." ∷ [])
    ++ all_of_class (Opens Bounds) (codes "bound" ∷ codes "bounds" ∷ [])
    ++ all_of_class (Opens Generals) (codes "general" ∷ codes "generals" ∷ codes "gen" ∷ codes "integer" ∷ codes "integers" ∷ codes "int" ∷ [])
    ++ all_of_class (Opens Binaries) (codes "binary" ∷ codes "binaries" ∷ codes "bin" ∷ [])
    ++ all_of_class (Opens Semi) (codes "semi" ∷ [])
    ++ all_of_class (Opens Semis) (codes "semis" ∷ [])
    ++ all_of_class Sos (codes "sos" ∷ codes "sos1" ∷ codes "sos2" ∷ [])
    ++ all_of_class Free (codes "free" ∷ [])
    ++ all_of_class Infinity (codes "inf" ∷ codes "infinity" ∷ [])
    ++ all_of_class (Opens End) (codes "end" ∷ [])

-- the meaning of a word, ignoring case; a word that is not reserved is a name
abbrev pub class_of : List ℕ → WordClass
class_of word =
    let lower = map lower_byte word in
    option_map_or (λ (entry : List ℕ × WordClass). entry.1) (find (λ entry. same_bytes lower entry.0) word_classes) Name

abbrev pub section_of : SectionWord → Section
section_of Minimize = sections.Objective
section_of Maximize = sections.Objective
section_of Rows = sections.Rows
section_of Subject = sections.Rows
section_of Such = sections.Rows
section_of Bounds = sections.Bounds
section_of Generals = sections.Generals
section_of Binaries = sections.Binaries
section_of Semi = sections.SemiContinuous
section_of Semis = sections.SemiContinuous
section_of End = sections.End
