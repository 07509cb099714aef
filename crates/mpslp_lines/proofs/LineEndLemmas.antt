-- A piece that is divided after its last line feed, and a text after its first one.
use Rattle.std.proofs.Common.{List, [], ap, arith, drop, false, get_or-drop, get_or-take, length, length-append}
use Rattle.std.proofs.Common.{length-drop, length-take, refl, slice_index, sym, take_all}
use Rattle.std.proofs.Common.{take, true, ℕ, ◌++◌, ◌+◌, ◌-◌, ◌<◌, ◌∙◌, ◌∷◌, ◌≡◌, ◌≤◌}
use Rattle.std.proofs.lemmas.{Bool.eqb-true, List.{take-append-drop, take_more, Elements.All-from_get_or}}
use Rattle.std.specs.Str.Lines.{lines, strip_carriage_return}
use Rattle.mpslp_model.proofs.CompleteLineLemmas.{complete-ended, complete-no_feed, last_line, lines-are, lines-more}
use Rattle.mpslp_model.proofs.CompleteLineLemmas.{open_tail-all, open_tail-ended}
use Rattle.mpslp_model.specs.CompleteLines.{HasNoFeed, is_feed, open_tail}

pub cut-lines : (piece : List ℕ) (last : ℕ) → last < length piece → is_feed (slice_index piece last) ≡ true
    → open_tail (take (last + 1) piece) ≡ []
cut-lines piece last within is =
    let feed = eqb-true _ 10 is in
    ap open_tail (take_more piece last 0 within ∙ ap (λ byte. take last piece ++ byte ∷ []) feed)
    ∙ open_tail-ended (take last piece)

pub uncut : (piece : List ℕ) → ((k : ℕ) → 0 ≤ k → k < length piece → is_feed (slice_index piece k) ≡ true → ⊥) → HasNoFeed piece
uncut piece none = All-from_get_or (λ byte. is_feed byte ≡ false) piece 0 (λ k l. (grind (arith, none k (omega arith) l)))

pub cut-rest : (piece : List ℕ) (len : ℕ) → ((k : ℕ) → len ≤ k → k < length piece → is_feed (slice_index piece k) ≡ true → ⊥)
    → HasNoFeed (drop len piece)
cut-rest piece len none =
    All-from_get_or (λ byte. is_feed byte ≡ false) _ 0
    (λ k l. ap is_feed (get_or-drop len piece k 0)
    ∙ grind (arith, (none (len + k) (omega arith) (omega (arith, length-drop len piece)))))

-- ---- the first line feed

-- no line feed before an index, as a search reports it
abbrev NoneBefore : List ℕ → ℕ → Type 0
NoneBefore text at = (k : ℕ) → 0 ≤ k → k < at → is_feed (slice_index text k) ≡ true → ⊥

pub front-none : (text : List ℕ) (at : ℕ) → at < length text → NoneBefore text at → HasNoFeed (take at text)
front-none text at within none =
    All-from_get_or (λ byte. is_feed byte ≡ false) (take at text) 0
    (λ k l. let below : k < at = omega (arith, l, length-take at text) in grind (arith, get_or-take, none k (omega arith) below))

-- the bytes from an index on
pub rest-is : (text : List ℕ) (at : ℕ) → take (length text - at) (drop at text) ≡ drop at text
rest-is text at = take_all _ (drop at text) (omega (arith, length-drop at text))

pub whole-cut : (text : List ℕ) (at : ℕ) → at < length text → is_feed (slice_index text at) ≡ true
    → (take at text ++ 10 ∷ []) ++ take (length text - (at + 1)) (drop (at + 1) text) ≡ text
whole-cut text at within is =
    ap (λ rest. (take at text ++ 10 ∷ []) ++ rest) (rest-is text (at + 1))
    ∙ ap (λ byte. (take at text ++ byte ∷ []) ++ drop (at + 1) text) (sym (eqb-true _ 10 is))
    ∙ ap (λ front. front ++ drop (at + 1) text) (sym (take_more text at 0 within)) ∙ take-append-drop (at + 1) text

-- the first line is before the first line feed
pub first-line : (line more : List ℕ) → HasNoFeed line →
    lines ((line ++ 10 ∷ []) ++ more) ≡ strip_carriage_return line ∷ lines more
first-line = grind (arith, lines-more, complete-ended, open_tail-ended, complete-no_feed, open_tail-all)

pub no-lines : (text : List ℕ) → length text ≡ 0 → lines text ≡ []
no-lines [] h = refl
no-lines (byte ∷ text) h = absurd (omega arith)

pub shorter-rest : (line rest text : List ℕ) → (line ++ 10 ∷ []) ++ rest ≡ text → length rest < length text
shorter-rest line rest text is =
    omega (arith, ap length is, length-append (line ++ 10 ∷ []) rest, length-append line (10 ∷ []))

last-some : (byte : ℕ) (line : List ℕ) → last_line (byte ∷ line) ≡ (byte ∷ line) ∷ []
last-some byte line = grind arith

pub only-line : (line : List ℕ) → (length line ≡ 0 → ⊥) → HasNoFeed line → lines line ≡ line ∷ []
only-line [] some h = absurd (some refl)
only-line (byte ∷ line) some h =
    let all = byte ∷ line in
    lines-are all ∙ (λ i. complete-no_feed all h i ++ last_line (open_tail-all all h i)) ∙ last-some byte line
