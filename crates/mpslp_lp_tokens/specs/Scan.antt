-- The longest token at a position, found in one pass.
use Rattle.std.specs.Prelude.{◌≡◌, ℕ, zero, suc, ◌+◌, ◌<◌, ◌≤◌, Bool, true, false, cond, List, [], ◌∷◌, length, take, drop, Option, None}
use Rattle.std.specs.List.{prefix_len}
use Rattle.mpslp_decimal.specs.Literal.{is_digit, is_point, is_sign, is_exponent_mark}
use Rattle.mpslp_lp_tokens.specs.Token.{Token, operator_kind, tokens_from}
use Rattle.mpslp_lp_tokens.specs.declared.tokens.Token.{Token as Found}
use Rattle.mpslp_lp_tokens.specs.declared.tokens.TokenKind.{TokenKind}

-- The prefix of this size passes if it is not empty, and no longer prefix of the text passes.
pub record IsLongestFront (passes : List ℕ → Bool) (text : List ℕ) (size : ℕ) : Type 0 where
  pub within : size ≤ length text
  pub front : 0 < size → passes (take size text) ≡ true
  pub longest : (n : ℕ) → size < n → n ≤ length text → passes (take n text) ≡ false

abbrev pub sign_size : List ℕ → ℕ
sign_size [] = 0
sign_size (byte ∷ bytes) = cond (is_sign byte) 1 0

-- this number of bytes and then digits; 0 if there are no digits
abbrev pub with_digits : ℕ → ℕ → ℕ
with_digits context zero = 0
with_digits context (suc digits) = context + suc digits

-- the length of the exponent part with which a text begins, 0 if there is none
abbrev pub exponent_size : List ℕ → ℕ
exponent_size [] = 0
exponent_size (byte ∷ bytes) =
    cond (is_exponent_mark byte) (with_digits (1 + sign_size bytes) (prefix_len is_digit (drop (sign_size bytes) bytes))) 0

-- digits and the exponent part after them
abbrev pub digits_and_exponent : ℕ → List ℕ → ℕ
digits_and_exponent zero rest = 0
digits_and_exponent (suc digits) rest = suc digits + exponent_size rest

-- a point, digits and the exponent part after them
abbrev pub point_and_exponent : ℕ → ℕ → List ℕ → ℕ
point_and_exponent zero zero rest = 0
point_and_exponent whole fraction rest = whole + 1 + fraction + exponent_size rest

abbrev pub number_size_after : ℕ → List ℕ → ℕ
number_size_after whole [] = whole
number_size_after whole (byte ∷ bytes) =
    cond (is_point byte) (point_and_exponent whole (prefix_len is_digit bytes) (drop (prefix_len is_digit bytes) bytes))
    (digits_and_exponent whole (byte ∷ bytes))

-- the length of the number with which a text begins, 0 if there is none
abbrev pub number_size : List ℕ → ℕ
number_size text = number_size_after (prefix_len is_digit text) (drop (prefix_len is_digit text) text)

-- the operator of two bytes with which a text begins
abbrev pub pair_operator : List ℕ → Option TokenKind
pair_operator [] = None
pair_operator (first ∷ []) = None
pair_operator (first ∷ second ∷ _) = operator_kind (first ∷ second ∷ [])

-- the token that was found, with its bytes
abbrev pub token_of : Found → Token
token_of found = record { kind = found.kind; start = found.start; text = found.text.now }

-- the tokens of a line from this position on
abbrev pub tokens_after : List ℕ → ℕ → List Token
tokens_after line at = tokens_from at 0 (drop at line)

-- these are the tokens of a text that begins somewhere in a line
pub record AreTokensOf (left : List Token) (text : List ℕ) : Type 0 where
  pub at : ℕ
  pub are : left ≡ tokens_from at 0 text

-- This is the first of these tokens: a slice of the line with at least one byte, and the others come after it.
pub record IsNext (line : List ℕ) (at : ℕ) (found : Found) : Type 0 where
  pub tokens : tokens_after line at ≡ token_of found ∷ tokens_after line (found.start + length found.text.now)
  pub later : at ≤ found.start
  pub some : 0 < length found.text.now
  pub within : found.start + length found.text.now ≤ length line
  pub slice : take (length found.text.now) (drop found.start line) ≡ found.text.now
