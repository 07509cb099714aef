-- Laws of the tokens of a line.
use Rattle.std.specs.Prelude.{◌≡◌, ◌⊎◌, ℕ, ◌+◌, ◌≤◌, ◌<◌, Bool, true, false, IsTrue, List, [], ◌∷◌, ◌++◌, length, map, take, drop, Some, None}
use Rattle.std.specs.List.{list_all, prefix_len}
use Rattle.mpslp_types.specs.Name.{is_lp_byte}
use Rattle.mpslp_lp_tokens.specs.Token.{is_blank, begins_comment, kind_of, Token, tokens}
use Rattle.mpslp_lp_tokens.specs.declared.tokens.TokenKind.{TokenKind}
use Rattle.mpslp_lp_tokens.specs.declared.tokens.TokenKind.TheVariants.{Unknown, Word}

-- From a place of a line on, each text is the slice of the line at its start and has a byte at least, and no token begins
-- before the one before it ends.
abbrev pub AreSlices : List ℕ → ℕ → List Token → Type 0
AreSlices line place [] = Unit {0}
AreSlices line place (token ∷ more) =
    (place ≤ token.start) × (0 < length token.text) × (take (length token.text) (drop token.start line) ≡ token.text)
    × AreSlices line (token.start + length token.text) more

-- The tokens of each line are slices of it.
abbrev pub TokensAreSlices : Type 0
TokensAreSlices = (line : List ℕ) → AreSlices line 0 (tokens line)

-- spaces and tabs, and a token after them
pub record SpacedToken : Type 0 where
  pub blanks : List ℕ
  pub token : Token

-- these in order, and what is left
abbrev pub joined : List SpacedToken → List ℕ → List ℕ
joined [] rest = rest
joined (spaced ∷ more) rest = spaced.blanks ++ (spaced.token.text ++ joined more rest)

abbrev pub are_blank : List ℕ → Bool
are_blank bytes = list_all is_blank bytes

-- nothing, or a backslash and what follows it
abbrev pub is_comment : List ℕ → Bool
is_comment [] = true
is_comment (byte ∷ bytes) = begins_comment byte

-- The bytes are these tokens, with nothing but spaces and tabs between them, and then perhaps a comment.
pub record IsMadeOf (found : List Token) (bytes : List ℕ) : Type 0 where
  pub parts : List SpacedToken
  pub last_blanks : List ℕ
  pub comment : List ℕ
  pub tokens_are : map (λ spaced. spaced.token) parts ≡ found
  pub blank : IsTrue (list_all (λ spaced. are_blank spaced.blanks) parts)
  pub last_blank : IsTrue (are_blank last_blanks)
  pub comment_is : IsTrue (is_comment comment)
  pub bytes_are : joined parts (last_blanks ++ comment) ≡ bytes

-- Each line is its tokens, the spaces and tabs between them, and its comment.
abbrev pub LinesAreTokens : Type 0
LinesAreTokens = (line : List ℕ) → IsMadeOf (tokens line) line

-- ---- the longest tokens

-- No longer prefix of the bytes is a token.
abbrev pub IsNoLonger : ℕ → List ℕ → Type 0
IsNoLonger size bytes = (n : ℕ) → size < n → n ≤ length bytes → kind_of (take n bytes) ≡ None

-- The bytes begin with the token, and with no longer one; or with no token at all, and their first byte is an unknown one.
abbrev pub BeginWith : Token → List ℕ → Type 0
BeginWith token bytes =
    (take (length token.text) bytes ≡ token.text) × IsNoLonger (length token.text) bytes
    × ((kind_of token.text ≡ Some token.kind) ⊎ ((kind_of token.text ≡ None) × (token.kind ≡ Unknown) × (length token.text ≡ 1)))

-- From a place of a line on, the bytes are these tokens: each comes after spaces and tabs, begins no comment, and is the longest
-- at its place; after the last one there are spaces, tabs and a comment at most.
abbrev pub AreLongest : ℕ → List Token → List ℕ → Type 0
AreLongest place [] bytes = is_comment (drop (prefix_len is_blank bytes) bytes) ≡ true
AreLongest place (token ∷ more) bytes =
    let blanks = prefix_len is_blank bytes in
    let rest = drop blanks bytes in
    (is_comment rest ≡ false) × BeginWith token rest × (token.start ≡ place + blanks)
    × AreLongest (token.start + length token.text) more (drop (length token.text) rest)

-- The tokens of a line are of this form.
abbrev pub TokensAreLongest : Type 0
TokensAreLongest = (line : List ℕ) → AreLongest 0 (tokens line) line

-- No others are.
abbrev pub LongestAreTokens : Type 0
LongestAreTokens = (line : List ℕ) (found : List Token) → AreLongest 0 found line → found ≡ tokens line

-- A text of this kind has, if it is a word, only bytes that LP names may have.
abbrev pub HasLpBytes : TokenKind → List ℕ → Type 0
HasLpBytes Word text = list_all is_lp_byte text ≡ true
HasLpBytes _ text = Unit {0}

-- So has each token.
abbrev pub HaveLpBytes : List Token → Type 0
HaveLpBytes [] = Unit {0}
HaveLpBytes (token ∷ more) = HasLpBytes token.kind token.text × HaveLpBytes more
