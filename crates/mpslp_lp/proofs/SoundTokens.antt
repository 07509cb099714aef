-- A word that is a name and has no error is an LP name.
use Rattle.mpslp_lp.proofs.Prelude
use Prelude.{◌≡◌, ℕ, List, true, None, ◌&&◌, list_all, first_so, second_so, same_bytes, has_name_length, is_visible, marker, is_lp_byte}
use Prelude.{is_reserved, is_like_exponent, begins_a_number, is_lp_name, both_so, is_word, class_of, word-text, name-not_reserved}
use Prelude.{name_fault, refl, [], ◌∷◌, ◌++◌, drop, zero, suc, map, Option, Some, filter_map, cons_option, is_decimal, least_kind}
use Prelude.{FaultKind, value-decimal, Token, tokens, Terminal, TerminalAt, word_terminal, terminal_of, line_terminals, word_fault}
use Prelude.{token_fault, lexical_fault, Name, Number, sound_terminals, TokenKind, WordIs, AreWords, tokens-words, Parsed, ◌>>=◌}
use Prelude.{after_taking, next, ahead, Reads, Unfinished, PhraseRule, arith}
use Rattle.std.proofs.Common.{not}
use Rattle.mpslp_types.specs.declared.faults.Fault.{Fault}
use Rattle.mpslp_lp_grammar.{proofs.LpWords.{name-without_fault}, specs.Rules.Parsed.{Refuses}}
use Rattle.mpslp_lp_tokens.specs.declared.words.WordClass.{WordClass}
use Rattle.mpslp_lp_tokens.specs.declared.words.WordClass.TheVariants as meanings

-- A word that is a name and has no fault is a name in LP.
pub lp-name : (text : List ℕ) → is_word text ≡ true → class_of text ≡ meanings.Name → name_fault text ≡ None →
    is_lp_name text ≡ true
lp-name text word word_class none = let fault = name-without_fault text none in
    let legal = fault.legal in
    let w = word-text text word in
    let no_marker = not (same_bytes text marker) in
    let named = second_so (has_name_length text) (list_all is_visible text && no_marker) legal in
    let t4 = no_marker && not (is_reserved text) in
    let t3 = not (is_like_exponent text) && t4 in
    let t2 = not (begins_a_number text) && t3 in both_so (has_name_length text) (list_all is_lp_byte text && t2)
    (first_so (has_name_length text) (list_all is_visible text && no_marker) legal) (both_so (list_all is_lp_byte text) t2 w.bytes
    (both_so (not (begins_a_number text)) t3 w.no_number
    (both_so (not (is_like_exponent text)) t4 fault.no_exponent
    (both_so no_marker (not (is_reserved text)) (second_so (list_all is_visible text) no_marker named)
    (name-not_reserved text word_class)))))

-- ---- the tokens of a line without an error of its own have legal names and decimals

abbrev pub IsSoundTerminal : Terminal → Type 0
IsSoundTerminal (Name name) = is_lp_name name ≡ true
IsSoundTerminal (Number value) = is_decimal value ≡ true
IsSoundTerminal _ = Unit {0}

abbrev pub AreSound : List TerminalAt → Type 0
AreSound [] = Unit {0}
AreSound (token ∷ more) = IsSoundTerminal token.terminal × AreSound more

pub sound-drop : (n : ℕ) (tokens : List TerminalAt) → AreSound tokens → AreSound (drop n tokens)
sound-drop zero tokens h = h
sound-drop (suc n) [] h = tt
sound-drop (suc n) (token ∷ tokens) h = sound-drop n tokens h.1

sound-append : (xs ys : List TerminalAt) → AreSound xs → AreSound ys → AreSound (xs ++ ys)
sound-append [] _ h k = k
sound-append (x ∷ xs) _ h k = (h.0, sound-append xs _ h.1 k)

-- ---- a token

word-sound : (text : List ℕ) (word_class : WordClass)
    → is_word text ≡ true → class_of text ≡ word_class → word_fault text word_class ≡ None →
    IsSoundTerminal (word_terminal text word_class)
word-sound = grind (arith, lp-name)

token-sound : (kind : TokenKind) (text : List ℕ) → WordIs kind text → token_fault kind text ≡ None →
    IsSoundTerminal (terminal_of kind text)
token-sound = grind (arith, word-sound, value-decimal)

-- ---- a line

-- the errors of its tokens
abbrev token_faults : List ℕ → List FaultKind
token_faults line = filter_map (λ (token : Token). token_fault token.kind token.text) (tokens line)

none-least : (found : List FaultKind) → least_kind found ≡ None → found ≡ []
none-least [] h = refl
none-least (kind ∷ found) h = cc

tokens-sound : (n : ℕ) (found : List Token) → AreWords found →
    filter_map (λ (token : Token). token_fault token.kind token.text) found ≡ [] →
    AreSound (map (λ (token : Token). record { line = n; terminal = terminal_of token.kind token.text }) found)
tokens-sound n [] w h = tt
tokens-sound n (token ∷ found) w h = let parts = by _ _ h in (token-sound _ _ w.0 parts.0, tokens-sound n found w.1 parts.1)
  where
    by : (o : Option FaultKind) (more : List FaultKind) → cons_option o more ≡ [] → (o ≡ None) × (more ≡ [])
    by = grind arith

pub line-sound : (line : ℕ × List ℕ) → lexical_fault line.1 ≡ None → AreSound (line_terminals line)
line-sound line h = tokens-sound _ _ (tokens-words line.1) (none-least _ (by _ _ h))
  where
    by : (legal : Option FaultKind) (found : List FaultKind)
        → elim legal as (λ _. Option FaultKind) [ Some kind ↦ Some kind | None ↦ least_kind found ] ≡ None →
        least_kind found ≡ None
    by = grind arith

pub text-sound : (numbered : List (ℕ × List ℕ)) → AreSound (sound_terminals numbered)
text-sound [] = tt
text-sound (line ∷ more) = grind (arith, sound-append, line-sound, text-sound more)

-- ---- properties of the values that rules read from well-formed tokens

abbrev pub Holds : {A : Type 0} → (A → Type 0) → Parsed Fault A → Type 0
Holds P (Reads value taken) = P value
Holds P (Refuses fault) = Unit {0}
Holds P Unfinished = Unit {0}

-- the values of a rule have the property if the tokens are well-formed
abbrev pub Gives : {A : Type 0} → (A → Type 0) → PhraseRule A → Type 0
Gives P rule = (tokens : List TerminalAt) → AreSound tokens → Holds P (rule tokens)

passing-holds : {A : Type 0} (P : A → Type 0) (taken : ℕ) (reading : Parsed Fault A) → Holds P reading →
    Holds P (after_taking taken reading)
passing-holds = grind arith

pub passed : {A : Type 0} (P : A → Type 0) (reading : Parsed Fault A) → Holds P reading → Holds P (after_taking 1 reading)
passed = grind arith

pub then-gives : {A B : Type 0} (P : A → Type 0) (Q : B → Type 0) (rule : PhraseRule A) (following : A → PhraseRule B)
    → Gives P rule → ((value : A) → P value → Gives Q (following value)) → Gives Q (rule >>= following)
then-gives = grind (arith, passing-holds, sound-drop)

abbrev pub IsSoundToken : TerminalAt → Type 0
IsSoundToken token = IsSoundTerminal token.terminal

pub next-gives : Gives IsSoundToken next
next-gives = grind arith

pub ahead-gives : Gives IsSoundToken ahead
ahead-gives = grind arith
