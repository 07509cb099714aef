-- Printed lines: they are short enough, have no error of their own, and their terminals are those of their pieces.
use Rattle.mpslp_lp_laws.proofs.Prelude
use Prelude.{rules, ◌≡◌, refl, ap, ◌∙◌, ℕ, zero, suc, ◌*◌, ◌≤◌, List, [], ◌∷◌, Bool, true, false, not, length, replicate, arith}
use Prelude.{length-append, map, Option, Some, None, ◌&&◌, ◌==◌, nat_le, codes, filter_map, if◌then◌else◌, join_by, list_all, list_any}
use Prelude.{cons_option, first_so, second_so, nat_tests, eqb-true, length-replicate, Number, IsDecimal, is_negative, size_of, is_digit}
use Prelude.{number_text, before-none, Each, number-text, read-short, is_letter, is_lp_byte, Each-flat_map, Each-from_list_all}
use Prelude.{list_all-from_Each, has_legal_bytes, begins_comment, is_word, Token, tokens, is_legal_byte, has_legal_length}
use Prelude.{number_fault, TerminalAt, terminal_of, line_terminals, token_fault, lexical_fault, AtMost, AtLeast, EqualTo, begins-lp, Lexeme}
use Prelude.{PrintedLine, word, label, number, sign, sense, minus_infinity, lexeme_text, line_text, semi_continuous, SeenToken, tokens_in}
use Prelude.{line_tokens, ◌++◌, ◌+◌, is_none, enumerate_from, both_so, sound_terminals, text_of, tokens_seen, flat_map, Decimal}
use Prelude.{zero_number, class_of, SignOf, Plus, Minus, Terminal, word_terminal, value_of, Name, Sign, Compares, Colon, Infinity, Opens}
use Prelude.{apply_sign, ◌<◌, cond, filter, position, position_or_len, option_map, Ordering, entries, find, leb-true, lt-ltb}
use Prelude.{have_same_value, marker, same_bytes, has_name_length, is_mps_name, is_like_exponent, is_reserved, begins_a_number, is_lp_name}
use Prelude.{LinearModel, Row, Column, key_cmp, is_sound_row, is_sound_column, is_sound_coefficient, IsSound, Listing, listing_of}
use Prelude.{are_sides, Sense, Limit, MinusInf, Finite, PlusInf, not_so, nor, Each-both, Each-map}
use Prelude.{Each-filter, name_fault, word_fault, Lines, heading, under_heading, label_line, Term, term_line, sense_word, term_in}
use Prelude.{objective_term, objective_terms, constant_lines, objective_section, left_lines, last_line, some_term, row_terms, row_lines}
use Prelude.{rows_section, bound_lexemes, line_of_some, bound_lines, bounds_section, is_integer_column, name_line, generals_section}
use Prelude.{listed_lines, canonical_lines, is_semi_column, semis_section, under_semi_heading, is_no_lp_name, first_unfit, or_else}
use Prelude.{unfit_in, unfit, numbered_lines, canonical_lp, AreReadAsPrinted}
use Rattle.std.specs.{Str.Lines.lines, Result.result_unwrap_or}
use Rattle.mpslp_decimal.proofs.CutLemmas.{Each-weaker, Each-append}
use Rattle.mpslp_types.{specs.{declared.faults.FaultKind.FaultKind}, proofs.NameLemmas.mps_name-from_lp}
use Rattle.mpslp_lines.{specs.declared.legal_line.TheConstants.MAX_LINE_LEN, proofs.WrittenLineLemmas.{IsPlain, lines-with_line_feeds}}
use Rattle.mpslp_lp_grammar.specs.{Points.{at}, Terminal.Terminal.{Number as Number_terminal}}
use Rattle.mpslp_lp_tokens.proofs.WordLemmas.{word_class-name}
use Rattle.mpslp_lp_laws.proofs.LexemeLemmas.{literal-each, seen, text-literal, IsPrintable, after_first_piece, line-read, name-word}
use Rattle.mpslp_lp_laws.proofs.LexemeLemmas.{IsGoodWord, IsGoodName}
use Rattle.mpslp_lp_tokens.specs.declared.tokens.TokenKind.TheVariants as kinds
use Rattle.mpslp_lp_tokens.specs.declared.words.SectionWord.TheVariants as section_words
use Rattle.mpslp_types.specs.declared.faults.NameAt.TheVariants as places
use Prelude.{first_held}
use Rattle.mpslp_types.specs.FaultOrder.{least_kind}
use Rattle.mpslp_types.specs.declared.faults.FaultKind.TheVariants as faults

-- ---- a printed line has no error of its own, and its terminals are those of its pieces

-- ---- bytes

-- visible, and not a backslash
abbrev pub is_plain : ℕ → Bool
is_plain byte = nat_le 33 byte && (nat_le byte 126 && not (byte == 92))

letter-plain : (b : ℕ) → is_letter b ≡ true → is_plain b ≡ true
letter-plain = grind (arith, nat_tests)

digit-plain : (b : ℕ) → is_digit b ≡ true → is_plain b ≡ true
digit-plain = grind (arith, nat_tests)

symbol-plain : (symbols : List ℕ) (b : ℕ) → list_all is_plain symbols ≡ true → list_any (λ s. s == b) symbols ≡ true →
    is_plain b ≡ true
symbol-plain [] b all any = cc
symbol-plain (s ∷ symbols) b all any =
    grind (arith, eqb-true, symbol-plain symbols b (second_so (is_plain s) (list_all is_plain symbols) all))

lp-plain : (b : ℕ) → is_lp_byte b ≡ true → is_plain b ≡ true
lp-plain = search (rules, letter-plain, digit-plain, symbol-plain)

-- a property of plain bytes and of spaces holds for each byte that is printed
module _ (P : ℕ → Type 0) (plain : (b : ℕ) → is_plain b ≡ true → P b) (blank : P 32) where
  each-word : (text : List ℕ) → is_word text ≡ true → Each P text
  each-word [] h = tt
  each-word (b ∷ bytes) h = (
    plain b (lp-plain b (begins-lp b (first_so _ _ h))),
    Each-weaker (λ c. is_lp_byte c ≡ true) P (λ c k. plain c (lp-plain c k)) bytes
        (Each-from_list_all is_lp_byte bytes (second_so _ _ h)),
  )

  each-code : (text : List ℕ) → list_all is_plain text ≡ true → Each P text
  each-code text h = Each-weaker (λ c. is_plain c ≡ true) P plain text (Each-from_list_all is_plain text h)

  each-number : (value : Number) → IsDecimal value → Each P (number_text value)
  each-number value h = literal-each P (λ b k. plain b (grind (arith, nat_tests))) (λ b k. plain b (grind (arith, nat_tests)))
      (λ b k. plain b (grind (arith, nat_tests))) (λ b k. plain b (grind (arith, nat_tests))) (number_text value)
      (text-literal value h)

  each-piece : (piece : Lexeme) → IsPrintable piece → Each P (lexeme_text piece)
  each-piece (word text) h = each-word text h.is
  each-piece (label name) h = Each-append P name (codes ":") (each-word name h.word_is.is) (each-code (codes ":") refl)
  each-piece (number value) h = each-number value h
  each-piece (sign true) h = each-code (codes "-") refl
  each-piece (sign false) h = each-code (codes "+") refl
  each-piece (sense AtMost) h = each-code (codes "<=") refl
  each-piece (sense AtLeast) h = each-code (codes ">=") refl
  each-piece (sense EqualTo) h = each-code (codes "=") refl
  each-piece minus_infinity h = each-code (codes "-infinity") refl
  each-piece semi_continuous h = each-code (codes "Semi-Continuous") refl

  each-after : (lexemes : List Lexeme) → Each IsPrintable lexemes → Each P (after_first_piece lexemes)
  each-after [] h = tt
  each-after (piece ∷ lexemes) h =
      (blank, Each-append P (lexeme_text piece) (after_first_piece lexemes) (each-piece piece h.0) (each-after lexemes h.1))

  each-joined : (lexemes : List Lexeme) → Each IsPrintable lexemes → Each P (join_by lexeme_text (codes " ") lexemes)
  each-joined [] h = tt
  each-joined (piece ∷ lexemes) h = Each-append P (lexeme_text piece) (after_first_piece lexemes) (each-piece piece h.0)
      (each-after lexemes h.1)

  each-blank : (n : ℕ) → Each P (replicate n 32)
  each-blank zero = tt
  each-blank (suc n) = (blank, each-blank n)

  pub each-line_text : (line : PrintedLine) → Each IsPrintable line.lexemes → Each P (line_text line)
  each-line_text line h = Each-append P
      (replicate line.indent 32) (join_by lexeme_text (codes " ") line.lexemes) (each-blank line.indent) (each-joined line.lexemes h)

plain-legal : (b : ℕ) → is_plain b ≡ true → is_legal_byte b ≡ true
plain-legal = grind (arith, nat_tests)

plain-no_comment : (b : ℕ) → is_plain b ≡ true → begins_comment b ≡ false
plain-no_comment = grind (arith, nat_tests)

bytes-legal : (line : PrintedLine) → Each IsPrintable line.lexemes → has_legal_bytes (line_text line) ≡ true
bytes-legal = search (rules, before-none, each-line_text, plain-no_comment, list_all-from_Each, plain-legal)

-- ---- length

-- a line that can be printed
pub record IsPrintableLine (line : PrintedLine) : Type 0 where
  pub near : line.indent ≤ 2
  pub few : length line.lexemes ≤ 5
  pub each : Each IsPrintable line.lexemes

length-piece : (piece : Lexeme) → IsPrintable piece → length (lexeme_text piece) ≤ 256
length-piece (word text) h = omega (arith, h.short)
length-piece (label name) h = omega (arith, h.word_is.short, length-append name (codes ":"))
length-piece (number value) h = grind (arith, read-short (number_text value) value (number-text value h), number-text value h)
length-piece (sign true) h = omega arith
length-piece (sign false) h = omega arith
length-piece (sense AtMost) h = omega arith
length-piece (sense AtLeast) h = omega arith
length-piece (sense EqualTo) h = omega arith
length-piece minus_infinity h = omega arith
length-piece semi_continuous h = omega arith

length-after : (lexemes : List Lexeme) → Each IsPrintable lexemes → length (after_first_piece lexemes) ≤ 257 * length lexemes
length-after [] h = omega arith
length-after (piece ∷ lexemes) h = grind (arith, length-piece, after_first_piece, arith, length-append, length-after lexemes h.1)

length-joined : (lexemes : List Lexeme) → Each IsPrintable lexemes → length (join_by lexeme_text (codes " ") lexemes) ≤ 257 * length lexemes
length-joined [] h = omega arith
length-joined (piece ∷ lexemes) h = let here : length (lexeme_text piece) ≤ 256 = length-piece piece h.0 in
    let more : length (after_first_piece lexemes) ≤ 257 * length lexemes = length-after lexemes h.1 in
    omega (arith, here, more, length-append (lexeme_text piece) (after_first_piece lexemes))

at_most : (n : ℕ) → n ≤ 2000 → nat_le n MAX_LINE_LEN ≡ true
at_most = grind (arith, nat_tests)

length-legal : (line : PrintedLine) → IsPrintableLine line → has_legal_length (line_text line) ≡ true
length-legal = grind (arith, replicate, length-replicate, length-joined, at_most, arith, length-append)

-- ---- errors of tokens

abbrev seen_fault : SeenToken → Option FaultKind
seen_fault token = token_fault token.0 token.1

faults-seen : (found : List Token)
    → filter_map (λ (token : Token). token_fault token.kind token.text) found ≡ filter_map seen_fault (seen found)
faults-seen [] = refl
faults-seen (token ∷ found) = ap (cons_option (token_fault token.kind token.text)) (faults-seen found)

none-faulty : (found : List SeenToken) → Each (λ token. seen_fault token ≡ None) found → filter_map seen_fault found ≡ []
none-faulty [] h = refl
none-faulty (token ∷ found) h = rw h.0 (none-faulty found h.1)

number-faultless : (value : Number) → IsDecimal value → number_fault (number_text value) ≡ None
number-faultless value h = rw (number-text value h) refl

piece-faultless : (piece : Lexeme) → IsPrintable piece → Each (λ token. seen_fault token ≡ None) (tokens_in piece)
piece-faultless (word _) h = (h.faultless, tt)
piece-faultless (label _) h = (h.word_is.faultless, (refl, tt))
piece-faultless (number value) h = grind (arith, number-faultless (size_of value) h, number-faultless value h)
piece-faultless (sign true) h = (refl, tt)
piece-faultless (sign false) h = (refl, tt)
piece-faultless (sense AtMost) h = (refl, tt)
piece-faultless (sense AtLeast) h = (refl, tt)
piece-faultless (sense EqualTo) h = (refl, tt)
piece-faultless minus_infinity h = (refl, (refl, tt))
piece-faultless semi_continuous h = (refl, (refl, (refl, tt)))

lexemes-faultless : (lexemes : List Lexeme) → Each IsPrintable lexemes
    → Each (λ piece. Each (λ token. seen_fault token ≡ None) (tokens_in piece)) lexemes
lexemes-faultless lexemes h = Each-weaker IsPrintable
    (λ piece. Each (λ token. seen_fault token ≡ None) (tokens_in piece)) piece-faultless lexemes h

-- a printed line has no error of its own
pub line-faultless : (line : PrintedLine) → IsPrintableLine line → lexical_fault (line_text line) ≡ None
line-faultless line h =
    let none : filter_map (λ (token : Token). token_fault token.kind token.text) (tokens (line_text line)) ≡ [] =
    faults-seen (tokens (line_text line)) ∙ ap (filter_map seen_fault) (line-read line h.each) ∙ none-faulty (line_tokens line)
    (Each-flat_map (λ token. seen_fault token ≡ None) tokens_in line.lexemes (lexemes-faultless line.lexemes h.each)) in λ i.
    elim (first_held ((not (length-legal line h i), faults.LineTooLong) ∷
    (not (bytes-legal line h.each i), faults.BadByte) ∷ [])) as (λ _. Option FaultKind)
    [ Some kind ↦ Some kind | None ↦ least_kind (none i) ]

-- ---- terminals

abbrev pub seen_at : ℕ → SeenToken → TerminalAt
seen_at n token = record { line = n; terminal = terminal_of token.0 token.1 }

terminals-seen : (n : ℕ) (found : List Token)
    → map (λ (token : Token). record { line = n; terminal = terminal_of token.kind token.text }) found ≡ map (seen_at n)
    (seen found)
terminals-seen n [] = refl
terminals-seen n (token ∷ found) = grind (arith, terminals-seen n found)

-- the terminals of a printed line are those of its pieces
pub line-terminals : (n : ℕ) (line : PrintedLine) → Each IsPrintable line.lexemes
    → line_terminals (n, line_text line) ≡ map (seen_at n) (line_tokens line)
line-terminals n line h = terminals-seen n (tokens (line_text line)) ∙ ap (map (seen_at n)) (line-read line h)

-- ---- a text of printed lines consists of these lines, and its terminals are those of their pieces

-- ---- printed lines

plain-whole : (b : ℕ) → is_plain b ≡ true → IsPlain b
plain-whole b h = (grind (arith, nat_tests), grind (arith, nat_tests))

all-plain : (ls : List PrintedLine) → Each IsPrintableLine ls → Each (Each IsPlain) (map line_text ls)
all-plain [] h = tt
all-plain (l ∷ ls) h = (each-line_text IsPlain plain-whole (refl, refl) l h.0.each, all-plain ls h.1)

pub lines-text : (ls : List PrintedLine) → Each IsPrintableLine ls → lines (text_of ls) ≡ map line_text ls
lines-text ls h = lines-with_line_feeds (map line_text ls) (all-plain ls h)

pub all-faultless : (ls : List PrintedLine) → Each IsPrintableLine ls →
    list_all (λ line. is_none (lexical_fault line)) (map line_text ls) ≡ true
all-faultless [] h = refl
all-faultless (l ∷ ls) h = grind (arith, both_so, line-faultless, all-faultless ls h.1)

pub all-tokens : (ls : List PrintedLine) → Each IsPrintableLine ls → map tokens_seen (map line_text ls) ≡ map line_tokens ls
all-tokens [] h = refl
all-tokens (l ∷ ls) h = λ i. line-read l h.0.each i ∷ all-tokens ls h.1 i

-- ---- their terminals

-- the terminals of printed lines, with line numbers from here on
abbrev pub terminals_from : ℕ → List PrintedLine → List TerminalAt
terminals_from n [] = []
terminals_from n (l ∷ ls) = map (seen_at n) (line_tokens l) ++ terminals_from (n + 1) ls

pub sound-terminals : (n : ℕ) (ls : List PrintedLine) → Each IsPrintableLine ls →
    sound_terminals (enumerate_from n (map line_text ls)) ≡ terminals_from n ls
sound-terminals n [] h = refl
sound-terminals n (l ∷ ls) h = grind (arith, line-faultless, line-terminals, sound-terminals (n + 1) ls h.1)

-- ---- what the grammar sees of a printed line

-- the sign of a negative number is a minus
abbrev pub sign_of : (negative : Bool) → SignOf
sign_of true = Minus
sign_of false = Plus

-- what is seen of a piece: a word by its meaning, a label as a name, and numbers by their values
abbrev pub terminals_in : Lexeme → List Terminal
terminals_in (word text) = word_terminal text (class_of text) ∷ []
terminals_in (label name) = Name name ∷ Colon ∷ []
terminals_in (number value) = if is_negative value then Sign Minus ∷ Number_terminal (size_of value) ∷ []
    else Number_terminal value ∷ []
terminals_in (sign minus) = Sign (sign_of minus) ∷ []
terminals_in (sense relation) = Compares relation ∷ []
terminals_in minus_infinity = Sign Minus ∷ Infinity ∷ []
terminals_in semi_continuous = Opens section_words.Semi ∷ Sign Minus ∷ Name (codes "Continuous") ∷ []

abbrev pub line_terminals_in : ℕ → PrintedLine → List TerminalAt
line_terminals_in n line = map (at n) (flat_map terminals_in line.lexemes)

value-read : (value : Decimal) → IsDecimal value → value_of (number_text value) ≡ value
value-read value h = ap (λ r. result_unwrap_or r zero_number) (number-text value h)

piece-seen : (n : ℕ) (piece : Lexeme) → IsPrintable piece → map (seen_at n) (tokens_in piece) ≡ map (at n) (terminals_in piece)
piece-seen n (word _) h = refl
piece-seen n (label name) h = λ i. at n (word_terminal name (h.word_class i)) ∷ at n Colon ∷ []
piece-seen n (number value) h = grind (arith, value-read (size_of value) h, value-read value h)
piece-seen n (sign true) h = refl
piece-seen n (sign false) h = refl
piece-seen n (sense AtMost) h = refl
piece-seen n (sense AtLeast) h = refl
piece-seen n (sense EqualTo) h = refl
piece-seen n minus_infinity h = refl
piece-seen n semi_continuous h = refl

pub mapped-append : {X Y : Type 0} (f : X → Y) (xs ys : List X) → map f (xs ++ ys) ≡ map f xs ++ map f ys
mapped-append f [] _ = refl
mapped-append {X} {Y} f (x ∷ xs) ys = ap (λ (more : List Y). f x ∷ more) (mapped-append f xs ys)

lexemes-seen : (n : ℕ) (lexemes : List Lexeme)
    → Each IsPrintable lexemes → map (seen_at n) (flat_map tokens_in lexemes) ≡ map (at n) (flat_map terminals_in lexemes)
lexemes-seen n [] h = refl
lexemes-seen n (piece ∷ lexemes) h = grind (arith, mapped-append, seen_at, piece-seen, lexemes-seen n lexemes h.1)

pub line-seen : (n : ℕ) (line : PrintedLine) → Each IsPrintable line.lexemes →
    map (seen_at n) (line_tokens line) ≡ line_terminals_in n line
line-seen n line h = lexemes-seen n line.lexemes h

-- the terminals of printed lines, with line numbers from here on
abbrev pub all_terminals : ℕ → List PrintedLine → List TerminalAt
all_terminals n [] = []
all_terminals n (line ∷ lines) = line_terminals_in n line ++ all_terminals (n + 1) lines

pub lines-seen : (n : ℕ) (lines : List PrintedLine) → Each IsPrintableLine lines → terminals_from n lines ≡ all_terminals n lines
lines-seen n [] h = refl
lines-seen n (line ∷ lines) h = λ i. line-seen n line h.0.each i ++ lines-seen (n + 1) lines h.1 i

-- a sign and an absolute value give the number
pub signed-value : (value : Decimal) → apply_sign (sign_of (is_negative value)) (size_of value) ≡ value
signed-value = grind arith

-- ---- the canonical lines of a well-formed model with LP names can be printed: names, decimals, signs and words of the
-- language

-- ---- words

-- by computation
pub code-word : (w : List ℕ) → is_word w ≡ true → nat_le (length w) 255 ≡ true → token_fault kinds.Word w ≡ None → IsGoodWord w
code-word w is short faultless = record { is = is; short = leb-true (length w) 255 short; faultless = faultless }

no-fault : (name : List ℕ) → is_mps_name name ≡ true → is_like_exponent name ≡ false → name_fault name ≡ None
no-fault = grind arith

-- what an LP name is
record IsName (name : List ℕ) : Type 0 where
  sized : has_name_length name ≡ true
  plain : is_like_exponent name ≡ false
  free : is_reserved name ≡ false

name-parts : (name : List ℕ) → is_lp_name name ≡ true → IsName name
name-parts name h =
    let no_marker = not (same_bytes name marker) in
    let t4 = no_marker && not (is_reserved name) in
    let t3 = not (is_like_exponent name) && t4 in
    let t2 = not (begins_a_number name) && t3 in
    let t1 = list_all is_lp_byte name && t2 in
    let h3 = second_so (not (begins_a_number name)) t3
    (second_so (list_all is_lp_byte name) t2 (second_so (has_name_length name) t1 h)) in
    record {
      sized = first_so (has_name_length name) t1 h;
      plain = not_so (is_like_exponent name) (first_so (not (is_like_exponent name)) t4 h3);
      free = not_so (is_reserved name)
          (second_so no_marker (not (is_reserved name)) (second_so (not (is_like_exponent name)) t4 h3));
    }

good-word : (name : List ℕ) → is_lp_name name ≡ true → IsGoodWord name
good-word name h = let parts = name-parts name h in record {
  is = name-word name h;
  short = leb-true (length name) 255 (second_so _ _ parts.sized);
  faultless = ap (word_fault name) (word_class-name name parts.free) ∙ no-fault name (mps_name-from_lp name h) parts.plain;
}

pub good-name : (name : List ℕ) → is_lp_name name ≡ true → IsGoodName name
good-name name h = record { word_is = good-word name h; word_class = word_class-name name (name-parts name h).free }

-- ---- lines

abbrev pub AllPrintable : Lines → Type 0
AllPrintable lines = Each IsPrintableLine lines

pub a-line : (indent : ℕ) (lexemes : List Lexeme) → nat_le indent 2 ≡ true
    → nat_le (length lexemes) 5 ≡ true → Each IsPrintable lexemes →
    IsPrintableLine (record { indent = indent; lexemes = lexemes })
a-line indent lexemes near few each = record { near = leb-true indent 2 near; few = leb-true (length lexemes) 5 few; each = each }

pub heading-printable : (w : List ℕ) → IsGoodWord w → IsPrintableLine (heading (w ∷ []))
heading-printable w h = a-line 0 (word w ∷ []) refl refl (h, tt)

under-printable : (section : List ℕ) (lines : Lines) → IsGoodWord section → AllPrintable lines →
    AllPrintable (under_heading section lines)
under-printable = grind arith

pub label-printable : (name : List ℕ) → IsGoodName name → IsPrintableLine (label_line name)
label-printable name h = a-line 1 (label name ∷ []) refl refl (h, tt)

abbrev pub IsTerm : Term → Type 0
IsTerm term = IsGoodName term.0 × IsDecimal term.1

pub term-printable : (term : Term) → IsTerm term → IsPrintableLine (term_line term)
term-printable term h = a-line 2 (sign (is_negative term.1) ∷ number (size_of term.1) ∷ word term.0 ∷ []) refl refl
    (tt, (h.1, (h.0.word_is, tt)))

terms-printable : (terms : List Term) → Each IsTerm terms → AllPrintable (map term_line terms)
terms-printable terms h = Each-map IsPrintableLine term_line terms
    (Each-weaker IsTerm (λ term. IsPrintableLine (term_line term)) term-printable terms h)

pub constant-printable : (value : Number) → IsDecimal value → AllPrintable (constant_lines value)
constant-printable = grind arith

-- ---- limits

abbrev pub IsDecimalLimit : Limit → Type 0
IsDecimalLimit MinusInf = Unit {0}
IsDecimalLimit (Finite a) = IsDecimal a
IsDecimalLimit PlusInf = Unit {0}

-- two limits
abbrev pub IsLimits : Limit → Limit → Type 0
IsLimits lower upper = IsDecimalLimit lower × IsDecimalLimit upper

pub sides-decimal : (lower upper : Limit) → are_sides lower upper ≡ true → IsLimits lower upper
sides-decimal = grind arith

left-printable : (lower upper : Limit) → IsLimits lower upper → AllPrintable (left_lines lower upper)
left-printable = grind arith

last-printable : (lower upper : Limit) → IsLimits lower upper → IsPrintableLine (last_line lower upper)
last-printable = grind arith

free-word : IsGoodWord (codes "free")
free-word = code-word (codes "free") refl refl refl

pub bound-printable : (column : List ℕ) (lower upper : Limit)
    → IsGoodWord column → IsLimits lower upper → AllPrintable (line_of_some (bound_lexemes column lower upper))
bound-printable column MinusInf (Finite b) w h = grind (arith, a-line)
bound-printable column (Finite a) (Finite b) w h = elim (have_same_value a b) as (λ t. AllPrintable (line_of_some
    (cond t (word column ∷ sense EqualTo ∷ number b ∷ [])
    (number a ∷ sense AtMost ∷ word column ∷ sense AtMost ∷ number b ∷ [])))) [
      | true ↦ (a-line 1 (word column ∷ sense EqualTo ∷ number b ∷ []) refl refl (w, (tt, (h.1, tt))), tt)
      | false
          ↦ (
            a-line 1 (number a ∷ sense AtMost ∷ word column ∷ sense AtMost ∷ number b ∷ []) refl refl
                (h.0, (tt, (w, (tt, (h.1, tt))))),
            tt,
          )
    ]
bound-printable column (Finite a) MinusInf w h = grind (arith, a-line)
bound-printable column (Finite a) PlusInf w h = grind (arith, a-line)
bound-printable column _ _ w h = (a-line 1 (word column ∷ word (codes "free") ∷ []) refl refl (w, (free-word, tt)), tt)

-- ---- terms

abbrev pub Holds : {X : Type 0} → (X → Type 0) → Option X → Type 0
Holds P None = Unit {0}
Holds P (Some x) = P x

each-found : {K X : Type 0} (R : K → K → Ordering) (P : X → Type 0) (k : K) (es : List (K × X)) → Each (λ e. P e.1) es →
    Holds P (find R k es)
each-found R P k [] h = tt
each-found {K} {X} R P k (e ∷ es) h = grind (arith, each-found R P k es h.1)

pub each-filter_map : {X Y : Type 0} (P : Y → Type 0) (f : X → Option Y) (xs : List X) → Each (λ x. Holds P (f x)) xs →
    Each P (filter_map f xs)
each-filter_map P f [] h = tt
each-filter_map {X} {Y} P f (x ∷ xs) h = grind (arith, each-filter_map P f xs h.1)

-- what is needed of a row and of a column
pub record IsFitRow (row : List ℕ × Row) : Type 0 where
  pub name : IsGoodName row.0
  pub limits : IsLimits row.1.lower row.1.upper

pub record IsFitColumn (column : List ℕ × Column) : Type 0 where
  pub name : IsGoodName column.0
  pub limits : IsLimits column.1.lower column.1.upper

-- and of a listing
pub record IsFit (m : Listing) : Type 0 where
  pub objective : IsGoodName m.objective
  pub constant : IsDecimal m.constant
  pub rows : Each IsFitRow m.rows
  pub columns : Each IsFitColumn m.columns
  pub coefficients : Each (λ entry. IsDecimal entry.1) m.coefficients

zero-decimal : IsDecimal zero_number
zero-decimal = refl

term-fits : (m : Listing) → IsFit m → (row : List ℕ) (column : List ℕ × Column) → IsFitColumn column →
    Holds IsTerm (term_in m row column)
term-fits m h row column c = by (find key_cmp (record { row = row; column = column.0 }) m.coefficients)
    (each-found key_cmp IsDecimal (record { row = row; column = column.0 }) m.coefficients h.coefficients)
  where
    by : (o : Option Number) → Holds IsDecimal o → Holds IsTerm (option_map (λ (value : Number). (column.0, value)) o)
    by None k = tt
    by (Some d) k = (c.name, k)

pub terms-fit : (m : Listing) → IsFit m → (row : List ℕ) → Each IsTerm (filter_map (term_in m row) m.columns)
terms-fit m h row = each-filter_map IsTerm (term_in m row) m.columns
    (Each-weaker IsFitColumn (λ column. Holds IsTerm (term_in m row column)) (λ column c. term-fits m h row column c)
    m.columns h.columns)

objective-term-fits : (m : Listing) → IsFit m → (column : List ℕ × Column) → IsFitColumn column →
    Holds IsTerm (objective_term m column)
objective-term-fits m h column c = search (rules, term-fits, zero-decimal)

pub objective-fits : (m : Listing) → IsFit m → Each IsTerm (objective_terms m)
objective-fits m h = each-filter_map IsTerm (objective_term m) m.columns (Each-weaker IsFitColumn
    (λ column. Holds IsTerm (objective_term m column)) (λ column c. objective-term-fits m h column c) m.columns h.columns)

pub some-fits : (columns : List (List ℕ × Column)) (terms : List Term) → Each IsFitColumn columns → Each IsTerm terms →
    Each IsTerm (some_term columns terms)
some-fits = grind arith

-- ---- all lines

pub in-turn : (xs ys : Lines) → AllPrintable xs → AllPrintable ys → AllPrintable (xs ++ ys)
in-turn xs ys h k = Each-append IsPrintableLine xs ys h k

pub sense-good : (s : Sense) → IsGoodWord (sense_word s)
sense-good = grind arith

objective-printable : (m : Listing) → IsFit m → AllPrintable (objective_section m)
objective-printable = grind (
  arith,
  heading-printable,
  sense-good,
  label-printable,
  in-turn,
  terms-printable,
  objective-fits,
  constant-printable,
)

pub row-printable : (m : Listing) (row : List ℕ × Row) → IsFitRow row → Each IsTerm (row_terms m row.0) →
    AllPrintable (row_lines m row)
row-printable = grind (arith, label-printable, in-turn, left-printable, terms-printable, last-printable)

pub subject-printable : IsPrintableLine (heading (codes "Subject" ∷ codes "To" ∷ []))
subject-printable = grind arith

rows-printable : (m : Listing) → IsFit m → AllPrintable (rows_section m)
rows-printable m h = (
  subject-printable,
  Each-flat_map IsPrintableLine (row_lines m) m.rows (Each-weaker IsFitRow (λ row. AllPrintable (row_lines m row)) (λ row r.
      row-printable m row r (some-fits m.columns (filter_map (term_in m row.0) m.columns) h.columns
      (terms-fit m h row.0))) m.rows h.rows),
)

bounds-printable : (m : Listing) → IsFit m → AllPrintable (bounds_section m)
bounds-printable m h = under-printable (codes "Bounds") (flat_map bound_lines m.columns) (code-word (codes "Bounds") refl refl refl)
    (Each-flat_map IsPrintableLine bound_lines m.columns (Each-weaker IsFitColumn (λ column. AllPrintable (bound_lines column))
    (λ column c. bound-printable column.0 column.1.lower column.1.upper c.name.word_is c.limits) m.columns h.columns))

generals-printable : (m : Listing) → IsFit m → AllPrintable (generals_section m)
generals-printable m h = under-printable (codes "Generals") (map name_line (filter is_integer_column m.columns)) (code-word
    (codes "Generals") refl refl refl) (Each-map IsPrintableLine name_line (filter is_integer_column m.columns) (Each-filter (λ column.
    IsPrintableLine (name_line column)) is_integer_column m.columns
    (Each-weaker IsFitColumn (λ column. is_integer_column column ≡ true →
    IsPrintableLine (name_line column))
    (λ column c _. a-line 1 (word column.0 ∷ []) refl refl (c.name.word_is, tt)) m.columns h.columns)))

semis-printable : (m : Listing) → IsFit m → AllPrintable (semis_section m)
semis-printable m h = under (map name_line (filter is_semi_column m.columns)) names
  where
    names : AllPrintable (map name_line (filter is_semi_column m.columns))
    names = Each-map IsPrintableLine name_line (filter is_semi_column m.columns)
        (Each-filter (λ column. IsPrintableLine (name_line column)) is_semi_column m.columns
        (Each-weaker IsFitColumn (λ column. is_semi_column column ≡ true → IsPrintableLine (name_line column))
        (λ column c _. a-line 1 (word column.0 ∷ []) refl refl (c.name.word_is, tt)) m.columns h.columns))

    under : (lines : Lines) → AllPrintable lines → AllPrintable (under_semi_heading lines)
    under [] k = tt
    under (line ∷ _) k = (a-line 0 (semi_continuous ∷ []) refl refl (tt, tt), k)

listed-printable : (m : Listing) → IsFit m → AllPrintable (listed_lines m)
listed-printable m h = let ending : Lines = heading (codes "End" ∷ []) ∷ [] in
    let semis_on = semis_section m ++ ending in
    let generals_on = generals_section m ++ semis_on in
    let bounds_on = bounds_section m ++ generals_on in
    let rows_on = rows_section m ++ bounds_on in
    in-turn (objective_section m) rows_on (objective-printable m h) (in-turn (rows_section m) bounds_on (rows-printable m h)
    (in-turn (bounds_section m) generals_on (bounds-printable m h)
    (in-turn (generals_section m) semis_on (generals-printable m h) (in-turn
    (semis_section m) ending (semis-printable m h) (heading-printable (codes "End") (code-word (codes "End") refl refl refl), tt)))))

-- ---- a well-formed model whose names are LP names

any-below : {X : Type 0} (p : X → Bool) (xs : List X) → list_any p xs ≡ true → position_or_len p xs < length xs
any-below p [] h = cc
any-below {X} p (x ∷ xs) h = grind (arith, any-below p xs)

no-any : {X : Type 0} (p : X → Bool) (xs : List X) → position p xs ≡ None → list_any p xs ≡ false
no-any {X} p xs h = grind (arith, lt-ltb, any-below)

none-of : {X : Type 0} (p : X → Bool) (xs : List X) → list_any p xs ≡ false → Each (λ x. p x ≡ false) xs
none-of p [] h = tt
none-of p (x ∷ xs) h = let both = nor _ _ h in (both.0, none-of p xs both.1)

none-at : {X : Type 0} (p : X → Bool) (xs : List X) → position p xs ≡ None → Each (λ x. p x ≡ false) xs
none-at p xs h = none-of p xs (no-any p xs h)

fit-names : (names : List (List ℕ)) → first_unfit names ≡ None → Each (λ name. is_lp_name name ≡ true) names
fit-names names h = Each-weaker (λ name. is_no_lp_name name ≡ false)
    (λ name. is_lp_name name ≡ true) (λ name k. is (is_lp_name name) k) names (none-at is_no_lp_name names h)
  where
    is : (b : Bool) → not b ≡ false → b ≡ true
    is true e = refl
    is false e = cc

-- all names are LP names
record HasLpNames (m : Listing) : Type 0 where
  objective : is_lp_name m.objective ≡ true
  rows : Each (λ row. is_lp_name row.0 ≡ true) m.rows
  columns : Each (λ column. is_lp_name column.0 ≡ true) m.columns

is-lp : (b : Bool) → not b ≡ false → b ≡ true
is-lp = grind arith

each-named : {X : Type 0} (named : List (List ℕ × X)) →
    Each (λ name. is_lp_name name ≡ true) (map (λ (entry : List ℕ × X). entry.0) named) →
    Each (λ (entry : List ℕ × X). is_lp_name entry.0 ≡ true) named
each-named [] h = tt
each-named (entry ∷ named) h = (h.0, each-named named h.1)

lp-names : (m : Listing) → unfit_in m ≡ None → HasLpNames m
lp-names m h = by (is_no_lp_name m.objective) (first_unfit (map (λ (row : List ℕ × Row). row.0) m.rows))
    (first_unfit (map (λ (column : List ℕ × Column). column.0) m.columns)) refl refl refl h
  where
    by : (b : Bool) (row column : Option ℕ) → is_no_lp_name m.objective ≡ b →
        first_unfit (map (λ (row : List ℕ × Row). row.0) m.rows) ≡ row →
        first_unfit (map (λ (column : List ℕ × Column). column.0) m.columns) ≡ column →
        (if b then Some places.Objective else or_else (option_map places.Row row)
        (option_map places.Column column)) ≡ None → HasLpNames m
    by true row column e f g k = cc
    by false (Some i) column e f g k = cc
    by false None (Some j) e f g k = cc
    by false None None e f g k = grind (arith, is-lp, each-named, fit-names)

row-fits : (row : List ℕ × Row) → is_lp_name row.0 ≡ true → is_sound_row row ≡ true → IsFitRow row
row-fits row name h = record {
  name = good-name row.0 name;
  limits =
      sides-decimal row.1.lower row.1.upper (first_so _ _ (second_so _ _ h));
}

column-fits : (column : List ℕ × Column) → is_lp_name column.0 ≡ true → is_sound_column column ≡ true → IsFitColumn column
column-fits column name h = record
    { name = good-name column.0 name; limits = sides-decimal column.1.lower column.1.upper (first_so _ _ (second_so _ _ h)) }

pub fit-from_sound : (m : LinearModel) → IsSound m → unfit m ≡ None → IsFit (listing_of m)
fit-from_sound m sound fits = let names = lp-names (listing_of m) fits in record {
  objective = good-name m.objective names.objective;
  constant = sound.constant;
  rows = Each-both (λ row. is_lp_name row.0 ≡ true) (λ row. is_sound_row row ≡ true) IsFitRow row-fits
      (entries m.rows) names.rows (Each-from_list_all is_sound_row (entries m.rows) sound.rows);
  columns = Each-both (λ column. is_lp_name column.0 ≡ true) (λ column. is_sound_column column ≡ true) IsFitColumn column-fits
      (entries m.columns) names.columns (Each-from_list_all is_sound_column (entries m.columns) sound.columns);
  coefficients = Each-weaker (λ entry. is_sound_coefficient m entry ≡ true) (λ entry. IsDecimal entry.1)
      (λ entry k. first_so _ _ k) (entries m.coefficients)
      (Each-from_list_all (is_sound_coefficient m) (entries m.coefficients) sound.coefficients);
}

-- each canonical line of a well-formed model with LP names can be printed
pub canonical-printable : (m : LinearModel) → IsSound m → unfit m ≡ None → AllPrintable (canonical_lines m)
canonical-printable m sound fits = listed-printable (listing_of m) (fit-from_sound m sound fits)

-- ---- the canonical LP text of a well-formed model with LP names is read as it was printed

pub read-as-line_text : AreReadAsPrinted
read-as-line_text = search (rules, canonical-printable, lines-text, all-faultless, all-tokens)

-- the terminals that the grammar sees in the text
pub canonical-terminals : (m : LinearModel)
    → IsSound m → unfit m ≡ None → sound_terminals (numbered_lines (canonical_lp m)) ≡ all_terminals 1 (canonical_lines m)
canonical-terminals m sound fits = let printable = canonical-printable m sound fits in
    ap (λ (ls : List (List ℕ)). sound_terminals (enumerate_from 1 ls)) (lines-text (canonical_lines m) printable)
    ∙ sound-terminals 1 (canonical_lines m) printable ∙ lines-seen 1 (canonical_lines m) printable
