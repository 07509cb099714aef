-- The pieces of a line of LP, one after another, are its text; and a text is not empty.
use Rattle.mpslp_decimal.specs.Decimal.{trailing_zeros}
use Rattle.mpslp_lp_write.proofs.Prelude
use Prelude.{◌≡◌, refl, sym, ap, ◌∙◌, ℕ, ◌<◌, List, [], ◌∷◌, ◌++◌, Bool, true, false, length, append_assoc, append-nil, arith, codes}
use Prelude.{replicate, flat_map, Number, is_negative, size_of, number_text, LinearModel, AtLeast, Lexeme, lexeme_text}
use Prelude.{line_text, sign, sign_bytes, label, number, Lines, heading, under_heading, semi_heading, under_semi_heading, long_line}
use Prelude.{label_line, signed_lexemes, right_line, minus_large, canonical_lp}
use Rattle.mpslp_io.specs.TextBuffer.{text_by, text_under}
use Rattle.mpslp_types.specs.{declared.kinds.Sense.{Sense}, declared.kinds.Sense.TheVariants.{Minimize, Maximize}}
use Rattle.std.specs.Fmt.{digits}

-- ---- one line

-- pieces after another one, and the end of the line
abbrev following : List Lexeme → List ℕ
following [] = 10 ∷ []
following (piece ∷ lexemes) = codes " " ++ (lexeme_text piece ++ following lexemes)

abbrev spaced : List Lexeme → List ℕ
spaced lexemes = flat_map (λ piece. codes " " ++ lexeme_text piece) lexemes

after-spaced : (lexemes : List Lexeme) → spaced lexemes ++ 10 ∷ [] ≡ following lexemes
after-spaced [] = refl
after-spaced (piece ∷ lexemes) =
    append_assoc (codes " " ++ lexeme_text piece) (spaced lexemes) (10 ∷ [])
    ∙ ap (λ (l : List ℕ). codes " " ++ (lexeme_text piece ++ l)) (after-spaced lexemes)

pub line-text : (indent : ℕ) (piece : Lexeme) (lexemes : List Lexeme)
    → replicate indent 32 ++ (lexeme_text piece ++ following lexemes) ≡ text_by line_text
    (record { indent = indent; lexemes = piece ∷ lexemes } ∷ [])
line-text indent piece lexemes =
    let blanks = replicate indent 32 in
    sym (append-nil ((blanks ++ (lexeme_text piece ++ spaced lexemes)) ++ 10 ∷ [])
    ∙ append_assoc blanks (lexeme_text piece ++ spaced lexemes) (10 ∷ [])
    ∙ ap (λ (l : List ℕ). blanks ++ l) (append_assoc (lexeme_text piece) (spaced lexemes) (10 ∷ [])
    ∙ ap (λ (l : List ℕ). lexeme_text piece ++ l) (after-spaced lexemes)))

pub label-text : (name : List ℕ) → codes " " ++ (name ++ codes ":\n") ≡ text_by line_text (label_line name ∷ [])
label-text name = ap (λ (l : List ℕ). codes " " ++ l) (sym (append_assoc name (codes ":") (10 ∷ []))) ∙ line-text 1 (label name) []

-- a sign and an absolute value, and what follows them
pub signed-text : (value : Number) (lexemes : List Lexeme)
    → (codes "  " ++ (sign_bytes (is_negative value) ++ codes " ")) ++ (number_text (size_of value) ++ following lexemes)
    ≡ text_by line_text (long_line (signed_lexemes value ++ lexemes) ∷ [])
signed-text value lexemes = by (is_negative value)
  where
    by : (minus : Bool) → (codes "  " ++ (sign_bytes minus ++ codes " ")) ++ (number_text (size_of value) ++ following lexemes)
        ≡ text_by line_text (long_line (sign minus ∷ number (size_of value) ∷ lexemes) ∷ [])
    by true = line-text 2 (sign true) (number (size_of value) ∷ lexemes)
    by false = line-text 2 (sign false) (number (size_of value) ∷ lexemes)

pub unlimited-text : codes "  >= -1e20\n" ≡ text_by line_text (right_line AtLeast minus_large ∷ [])
unfolding digits trailing_zeros
unlimited-text = refl

-- ---- lines below a heading

pub under-heading : (section header : List ℕ) (lines : Lines) → header ≡ line_text (heading (section ∷ [])) ++ 10 ∷ []
    → text_under line_text header lines ≡ text_by line_text (under_heading section lines)
under-heading section header [] is = refl
under-heading section header (line ∷ lines) is = ap (λ (l : List ℕ). l ++ text_by line_text (line ∷ lines)) is

pub under-semi-heading : (header : List ℕ) (lines : Lines) → header ≡ line_text semi_heading ++ 10 ∷ []
    → text_under line_text header lines ≡ text_by line_text (under_semi_heading lines)
under-semi-heading header [] is = refl
under-semi-heading header (line ∷ lines) is = ap (λ (l : List ℕ). l ++ text_by line_text (line ∷ lines)) is

-- ---- the whole text

pub canonical_lp-some : (m : LinearModel) → 0 < length (canonical_lp m)
canonical_lp-some m = by m.sense
  where
    by : (sense : Sense) → 0 < length (canonical_lp (record m { sense = sense }))
    by Minimize = omega arith
    by Maximize = omega arith
