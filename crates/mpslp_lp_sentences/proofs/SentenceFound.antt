-- LP text is a file of phrases, and declares what that declares.
use Rattle.mpslp_lp_sentences.proofs.Prelude
use Prelude.{◌≡◌, ◌<◌, refl, sym, ap, ◌∙◌, ℕ, zero, suc, ◌+◌, List, [], ◌∷◌, ◌++◌, Bool, true, not, append_assoc, map, drop, length, ◌≤◌}
use Prelude.{arith, Option, Some, None, ◌==◌, is_none, flat_map, list_all, enumerate_from, first_so, second_so, lines, Fault, FaultKind}
use Prelude.{Declarations, Draft, empty_draft, refusals_in_turn, Token, tokens, Outcome, phrases, made_by, Terminal, TerminalAt}
use Prelude.{terminal_of, line_terminals, lexical_fault, as_terminal, terminals, Opens, start, phrase_at, numbered_lines, sound_terminals}
use Prelude.{first_own_fault, or_else, is_finished, mapped-append, SentencesAreRead, subst, eq-eqb, append-nil, both_so}
use Prelude.{declarations_of, at, ReadTextsAreSentences, false≢true}
use Rattle.std.proofs.Common.{take}
use Rattle.mpslp_lp.proofs.ModelOrFault.{whole-fine}
use Rattle.mpslp_lp_sentences.proofs.Whole.{Tokens, whole as heard_whole, finished-from_whole, whole, whole-from_finished}
use Rattle.mpslp_lp_sentences.proofs.{Hears.{stamped, ending, is_elsewhere, onward}, PhrasesHeard.{front_tokens, whole-file}}
use Rattle.mpslp_lp_sentences.proofs.{Found.{all_at, onwards, Complete}, FoundFile.{FileFound, file-found}}
use Rattle.mpslp_lp_tokens.specs.declared.words.SectionWord.TheVariants as words

-- ---- the tokens of the first lines of a sentence are a file, and so it is LP text

-- ---- lists

abbrev pub first_or : {X : Type 0} → X → List X → X
first_or default [] = default
first_or default (x ∷ xs) = x

abbrev pub rest_of : {X : Type 0} → List X → List X
rest_of [] = []
rest_of (x ∷ xs) = xs

-- ---- tokens on their lines

abbrev pub seen : TerminalAt → Terminal
seen token = token.terminal

-- the tokens of lines, the first of which has this number
abbrev pub tokens_from : ℕ → List (List ℕ) → Tokens
tokens_from n ls = flat_map line_terminals (enumerate_from n ls)

-- all are on lines before this one
abbrev AreBefore : ℕ → Tokens → Type 0
AreBefore m [] = Unit {0}
AreBefore m (token ∷ more) = (token.line < m) × AreBefore m more

before-append : (m : ℕ) (xs ys : Tokens) → AreBefore m xs → AreBefore m ys → AreBefore m (xs ++ ys)
before-append m [] _ h k = k
before-append m (x ∷ xs) _ h k = (h.0, before-append m xs _ h.1 k)

line-before : (n m : ℕ) (found : List Token) → n < m →
    AreBefore m (map (λ (token : Token). record { line = n; terminal = terminal_of token.kind token.text }) found)
line-before n m [] h = tt
line-before n m (token ∷ found) h = (h, line-before n m found h)

lines-before : (ls : List (List ℕ)) (n m : ℕ) → n + length ls ≤ m → AreBefore m (tokens_from n ls)
lines-before [] n m h = tt
lines-before (l ∷ ls) n m h = before-append m _ _ (line-before n m _ (omega (arith, h))) (lines-before ls _ m (omega (arith, h)))

pub line-seen : (n : ℕ) (found : List Token)
    → map seen (map (λ (token : Token). record { line = n; terminal = terminal_of token.kind token.text }) found) ≡ map
    as_terminal found
line-seen n [] = refl
line-seen n (token ∷ found) = grind (arith, line-seen n found)

lines-seen : (ls : List (List ℕ)) (n : ℕ) → map seen (tokens_from n ls) ≡ flat_map terminals ls
lines-seen [] n = refl
lines-seen (l ∷ ls) n = mapped-append seen (line_terminals (n, l)) (tokens_from (n + 1) ls)
    ∙ (λ i. line-seen n (tokens l) i ++ lines-seen ls (n + 1) i)

-- lines without an error by themselves, and those after them
lines-split : (k n : ℕ) (ls : List (List ℕ)) → list_all (λ line. is_none (lexical_fault line)) (take k ls) ≡ true →
    sound_terminals (enumerate_from n ls) ≡ tokens_from n (take k ls) ++ sound_terminals
    (enumerate_from (n + length (take k ls)) (drop k ls))
lines-split zero n ls h = grind arith
lines-split (suc k) n [] h = refl
lines-split (suc k) n (l ∷ ls) h = let good = first_so _ _ h in
    let others = second_so _ _ h in by _ good
    ∙ ap (λ more. line_terminals (n, l) ++ more)
    (lines-split k _ ls others ∙ ap
    (λ m. tokens_from (n + 1) (take k ls) ++ sound_terminals (enumerate_from m (drop k ls))) (numbers _))
    ∙ sym (append_assoc (line_terminals (n, l)) (tokens_from (n + 1) (take k _)) _)
  where
    numbers : (j : ℕ) → n + 1 + j ≡ n + suc j
    numbers j = omega arith

    by : (o : Option FaultKind) → is_none o ≡ true
        → elim o as (λ _. Tokens) [ Some kind ↦ [] | None ↦ line_terminals (n, l) ++ sound_terminals (enumerate_from (n + 1) ls) ]
        ≡ line_terminals (n, l) ++ sound_terminals (enumerate_from (n + 1) ls)
    by o k = grind arith

-- what follows on later lines is elsewhere
lines-elsewhere : (ls : List (List ℕ)) (last m : ℕ) → last < m → is_elsewhere last (sound_terminals (enumerate_from m ls)) ≡ true
lines-elsewhere [] _ m h = refl
lines-elsewhere (l ∷ ls) last m h = by (lexical_fault l) (lines-elsewhere ls _ _ (omega (arith, h)))
  where
    other : (b : Bool) → (m == last) ≡ b → not b ≡ true
    other = grind arith

    of_line : (found : List Token) (more : Tokens) → is_elsewhere last more ≡ true → is_elsewhere last
        (map (λ (token : Token). record { line = m; terminal = terminal_of token.kind token.text }) found ++ more) ≡ true
    of_line [] _ k = k
    of_line (token ∷ _) _ k = other _ refl

    by : (o : Option FaultKind) → is_elsewhere last (sound_terminals (enumerate_from (m + 1) ls)) ≡ true → is_elsewhere last
        (elim o as (λ _. Tokens) [
          | Some kind ↦ []
          | None ↦ line_terminals (m, l) ++ sound_terminals
              (enumerate_from (m + 1) ls)
        ]) ≡ true
    by (Some _) k = refl
    by None k = of_line (tokens l) _ k

-- ---- the last of the tokens is `end`

pub record IsStamped (m : ℕ) (found later : Tokens) (xs : List Terminal) : Type 0 where
  pub line : ℕ → ℕ
  pub last : ℕ
  pub before : last < m
  pub same : found ++ later ≡ stamped line xs (ending last later)

stamped-from : (m : ℕ) (xs : List Terminal) (found later : Tokens) → AreBefore m found →
    map seen found ≡ xs ++ Opens words.End ∷ [] → IsStamped m found later xs
stamped-from m [] [] later h e = grind arith
stamped-from m [] (token ∷ []) later h e = record {
  line = λ k. 0;
  last = token.line;
  before = h.0;
  same = λ i. record { line = token.line; terminal = first_or token.terminal (e i) } ∷ later;
}
stamped-from m [] (token ∷ second ∷ found) later h e = grind arith
stamped-from m (x ∷ xs) [] later h e = grind arith
stamped-from m (x ∷ xs) (token ∷ found) _ h e = let more = stamped-from m xs found _ h.1 (ap rest_of e) in record {
  line = λ k. elim k as (λ _. ℕ) [ zero ↦ token.line | suc j ↦ more.line j ];
  last = more.last;
  before = more.before;
  same = λ i. record { line = token.line; terminal = first_or token.terminal (e i) } ∷ more.same i;
}

-- ---- the text

finished-first : (one other : Outcome Fault Draft) → is_finished one ≡ true → is_finished (or_else one other) ≡ true
finished-first = grind arith

pub sentences-read : SentencesAreRead
sentences-read bytes declared h = (
  finished-first (phrases phrase_at start 0 (sound_terminals (numbered_lines bytes)))
      (first_own_fault (numbered_lines bytes)) read.0,
  read.1,
)
  where
    front : List (List ℕ)
    front = take h.count (lines bytes)

    later : Tokens
    later = sound_terminals (enumerate_from (1 + length front) (drop h.count (lines bytes)))

    on_lines : IsStamped (1 + length front) (tokens_from 1 front) later (front_tokens h.whole)
    on_lines = stamped-from (1 + length front) (front_tokens h.whole) (tokens_from 1 front) later
        (lines-before front 1 (1 + length front) (omega arith)) (lines-seen front 1 ∙ h.tokens ∙ (grind (arith, append_assoc)))

    heard : heard_whole start 0 (sound_terminals (numbered_lines bytes)) ≡ Some declared
    heard = ap (heard_whole start 0) (lines-split h.count 1 (lines bytes) h.sound ∙ on_lines.same)
        ∙ whole-file on_lines.last later h.whole h.right
        (lines-elsewhere (drop h.count (lines bytes)) on_lines.last (1 + length front) on_lines.before)
        (ap (λ (ds : Declarations).
        refusals_in_turn empty_draft ds) h.declares ∙ h.unrefused) on_lines.line ∙ ap (λ (ds : Declarations). Some ds) h.declares

    read : (is_finished (phrases phrase_at start 0 (sound_terminals (numbered_lines bytes))) ≡ true)
        × (made_by phrase_at start 0 (sound_terminals (numbered_lines bytes)) ≡ declared)
    read = grind (arith, finished-from_whole, heard)

-- ---- LP text is a sentence: its tokens up to `end` are those of its first lines

-- ---- tokens by their lines

abbrev line_of : Tokens → ℕ → ℕ
line_of [] k = 0
line_of (token ∷ more) zero = token.line
line_of (token ∷ more) (suc k) = line_of more k

tokens-stamped : (found : Tokens) → all_at (line_of found) (map seen found) ≡ found
tokens-stamped [] = refl
tokens-stamped (token ∷ found) = grind (arith, tokens-stamped found)

-- tokens before others, and the others
stamped-split : (xs ys : List Terminal) (line : ℕ → ℕ) → all_at line (xs ++ ys) ≡ all_at line xs ++ all_at (onwards xs line) ys
stamped-split [] _ _ = refl
stamped-split (x ∷ xs) ys line = ap (λ (more : Tokens). at (line 0) x ∷ more) (stamped-split xs ys (onward line))

stamped-seen : (xs : List Terminal) (line : ℕ → ℕ) → map seen (all_at line xs) ≡ xs
stamped-seen [] _ = refl
stamped-seen (x ∷ xs) line = ap (λ (more : List Terminal). x ∷ more) (stamped-seen xs (onward line))

-- ---- two ways to cut a list

data Cut (g r f : Tokens) (e : TerminalAt) (a : Tokens) : Type 0 where
  -- the first part ends before the token
  before : (more : Tokens) → f ≡ g ++ more → r ≡ more ++ e ∷ a → Cut g r f e a
  -- the token is in the first part
  within : (more : Tokens) → g ≡ f ++ e ∷ more → a ≡ more ++ r → Cut g r f e a

cut : (g r f : Tokens) (e : TerminalAt) (a : Tokens) → g ++ r ≡ f ++ e ∷ a → Cut g r f e a
cut [] r f e a h = before f refl h
cut (x ∷ g) r [] e a h = within g (λ i. first_or x (h i) ∷ g) (sym (ap rest_of h))
cut (x ∷ g) r (y ∷ f) e a h = by (cut g r f e a (ap rest_of h))
  where
    head : x ≡ y
    head = ap (first_or x) h

    by : Cut g r f e a → Cut (x ∷ g) r (y ∷ f) e a
    by (before more same rest) = before more (λ i. head_back i ∷ same i) rest
      where
        head_back : y ≡ x
        head_back = sym head
    by (within more same rest) = within more (λ i. head i ∷ same i) rest

-- ---- the first lines

-- these lines have no error by themselves, and the tokens of no others
record FirstLines (ls : List (List ℕ)) (xs : List Terminal) : Type 0 where
  count : ℕ
  sound : list_all (λ line. is_none (lexical_fault line)) (take count ls) ≡ true
  found : flat_map terminals (take count ls) ≡ xs

abbrev line_tokens : ℕ → List Token → Tokens
line_tokens n found = map (λ (token : Token). record { line = n; terminal = terminal_of token.kind token.text }) found

-- the tokens of a line are on it
all-on_line : (n : ℕ) (found : List Token) (f : Tokens) (e : TerminalAt) (more : Tokens) →
    line_tokens n found ≡ f ++ e ∷ more → e.line ≡ n
all-on_line n [] [] e more h = grind arith
all-on_line n [] (y ∷ f) e more h = grind arith
all-on_line n (token ∷ found) [] e more h = grind arith
all-on_line n (token ∷ found) (y ∷ f) e more h = all-on_line n found f e more (ap rest_of h)

-- of tokens after `end` none is on its line
none-after : (n : ℕ) (found : List Token) (f : Tokens) (e second : TerminalAt) (more rest : Tokens)
    → line_tokens n found ≡ f ++ e ∷ second ∷ more → is_elsewhere e.line (second ∷ rest) ≡ true → ⊥
none-after n found f e second more _ h elsewhere =
    false≢true (sym (ap not (eq-eqb second.line e.line (second_line ∙ sym (all-on_line n found f e (second ∷ more) h))))
    ∙ elsewhere)
  where
    second_line : second.line ≡ n
    second_line = all-on_line n found (f ++ e ∷ []) second more (h ∙ sym (append_assoc f (e ∷ []) (second ∷ more)))

lines-cut : (ls : List (List ℕ)) (n : ℕ) (f : Tokens) (e : TerminalAt) (a : Tokens)
    → sound_terminals (enumerate_from n ls) ≡ f ++ e ∷ a → is_elsewhere e.line a ≡ true → FirstLines ls (map seen (f ++ e ∷ []))
lines-cut [] n [] e a h _ = absurd (cc)
lines-cut [] n (y ∷ f) e a h elsewhere = grind arith
lines-cut (l ∷ ls) n f e a h elsewhere = by (lexical_fault l) refl h (λ more k. lines-cut ls (n + 1) more e a k elsewhere)
  where
    none : (g : Tokens) → [] ≡ g ++ e ∷ a → ⊥
    none [] k = (cc)
    none (y ∷ g) k = (cc)

    from : lexical_fault l ≡ None → Cut (line_tokens n (tokens l)) (sound_terminals (enumerate_from (n + 1) ls)) f e a
        → ((more : Tokens) → sound_terminals (enumerate_from (n + 1) ls) ≡ more ++ e ∷ a →
        FirstLines ls (map seen (more ++ e ∷ []))) → FirstLines (l ∷ ls) (map seen (f ++ e ∷ []))
    from fine (before more same rest) rec = let later = rec more rest in record {
      count = suc later.count;
      sound = both_so _ _ (ap is_none fine) later.sound;
      found = (λ i. sym (line-seen n (tokens l)) i ++ later.found i)
          ∙ sym (mapped-append seen (line_tokens n (tokens l)) (more ++ e ∷ [])) ∙ ap (λ (ts : Tokens). map seen ts)
          (sym (append_assoc (line_tokens n (tokens l)) more (e ∷ [])) ∙ ap (λ (ts : Tokens). ts ++ e ∷ []) (sym same));
    }
    from fine (within [] same _) _ = record {
      count = 1;
      sound = both_so _ _ (ap is_none fine) refl;
      found = append-nil (terminals l) ∙ sym (line-seen n (tokens l)) ∙ ap (λ (ts : Tokens). map seen ts) same;
    }
    from _ (within (second ∷ more) same rest) _ = absurd (none-after n (tokens l) f e second more
        (more ++ sound_terminals (enumerate_from (n + 1) ls)) same
        (ap (λ (ts : Tokens). is_elsewhere e.line ts) (sym rest) ∙ elsewhere))

    by : (o : Option FaultKind) → lexical_fault l ≡ o → elim o as (λ _. Tokens)
        [ Some kind ↦ [] | None ↦ line_terminals (n, l) ++ sound_terminals (enumerate_from (n + 1) ls) ] ≡ f ++ e ∷ a
        → ((more : Tokens) → sound_terminals (enumerate_from (n + 1) ls) ≡ more ++ e ∷ a →
        FirstLines ls (map seen (more ++ e ∷ []))) → FirstLines (l ∷ ls) (map seen (f ++ e ∷ []))
    by (Some _) _ k _ = absurd (none f k)
    by None same k rec = from same (cut (line_terminals (n, l)) (sound_terminals (enumerate_from (n + 1) ls)) f e a k) rec

-- ---- the text

-- a line with an error by itself does not complete the text
never_finished : (numbered : List (ℕ × List ℕ)) → is_finished (first_own_fault numbered) ≡ true → ⊥
never_finished [] h = cc
never_finished (line ∷ more) h = grind (arith, never_finished more)

pub texts-found : ReadTextsAreSentences
texts-found bytes text = record {
  whole = file.whole;
  right = file.right;
  count = first.count;
  sound = first.sound;
  tokens = first.found
      ∙ mapped-append seen (all_at on (front_tokens file.whole))
      (at (onwards (front_tokens file.whole) on 0) (Opens words.End) ∷ [])
      ∙ ap (λ (xs : List Terminal). xs ++ Opens words.End ∷ []) (stamped-seen (front_tokens file.whole) on) ∙ sym (grind (
        arith,
        append_assoc,
      ));
  declares = sym file.is;
  unrefused = (whole-fine bytes).unrefused;
}
  where
    on : ℕ → ℕ
    on = line_of (sound_terminals (numbered_lines bytes))

    complete : Complete start (line_of (sound_terminals (numbered_lines bytes)))
        (map seen (sound_terminals (numbered_lines bytes))) (declarations_of bytes)
    complete = subst (λ (ts : Tokens). whole start 0 ts ≡ Some (declarations_of bytes))
        (sym (tokens-stamped (sound_terminals (numbered_lines bytes))))
        (whole-from_finished (sound_terminals (numbered_lines bytes)) start (grind (arith, never_finished)))

    file : FileFound (line_of (sound_terminals (numbered_lines bytes)))
        (map seen (sound_terminals (numbered_lines bytes))) (declarations_of bytes)
    file = file-found on (map seen (sound_terminals (numbered_lines bytes))) (declarations_of bytes)
        (whole-fine bytes).unrefused complete

    split : sound_terminals (numbered_lines bytes) ≡ all_at on (front_tokens file.whole) ++ at
        (onwards (front_tokens file.whole) on 0) (Opens words.End) ∷ all_at
        (onward (onwards (front_tokens file.whole) on)) file.after
    split = sym (tokens-stamped (sound_terminals (numbered_lines bytes)))
        ∙ ap (all_at on) file.same ∙ stamped-split (front_tokens file.whole) (Opens words.End ∷ file.after) on

    first : FirstLines (lines bytes)
        (map seen (all_at on (front_tokens file.whole) ++ at (onwards (front_tokens file.whole) on 0) (Opens words.End) ∷ []))
    first = lines-cut (lines bytes) 1 (all_at on (front_tokens file.whole))
        (at (onwards (front_tokens file.whole) on 0) (Opens words.End))
        (all_at (onward (onwards (front_tokens file.whole) on)) file.after) split file.elsewhere
