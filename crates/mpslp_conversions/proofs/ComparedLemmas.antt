-- The state of a comparing sink, piece by piece.
use Rattle.std.proofs.Common.{◌≡◌, ℕ, List, [], ◌∷◌, ◌++◌, length, take, drop, Bool, true, false, not, refl, sym, ap, ◌∙◌, subst}
use Rattle.std.proofs.{Common.{append_assoc, append-nil, arith}, Math.Seq.{take-append_seam, drop-append_seam, take-length}}
use Rattle.std.proofs.lemmas.{Bool.Decides.{Decides-eqb}, List.{append_cancel_left, length-append, take-append-drop}}
use Rattle.std.specs.{Prelude.{◌≢◌, ◌==◌, nat_eq}, Bool.{Decides}, Cmp.Lexicographic.{pointwise, same_text, other_text}}
use Rattle.mpslp_conversions.specs.Compared.{IsFront, Compared}

-- what is not a prefix stays so
stays_other : (rest wanted written piece : List ℕ) → ((more : List ℕ) → wanted ≢ written ++ more)
    → (more : List ℕ) → wanted ≢ (written ++ piece) ++ more
stays_other = grind (arith, append_assoc)

-- the next piece is as expected
IsFront-more : (differs : Bool) (rest wanted written piece : List ℕ) → pointwise nat_eq (take (length piece) rest) piece ≡ true
    → IsFront differs rest wanted written → IsFront differs (drop (length piece) rest) wanted (written ++ piece)
IsFront-more false rest wanted written piece same h =
    let piece_is : take (length piece) rest ≡ piece = same_text (take (length piece) rest) piece (sym same) in
    let parts : piece ++ drop (length piece) rest ≡ rest =
    ap (λ l. l ++ drop (length piece) rest) (sym piece_is) ∙ take-append-drop (length piece) rest in
    grind (arith, take-append-drop, append_assoc)
IsFront-more true rest wanted written piece same h = stays_other rest wanted written piece h

-- the next piece differs
IsFront-other : (differs : Bool) (rest wanted written piece : List ℕ) → pointwise nat_eq (take (length piece) rest) piece ≡ false
    → IsFront differs rest wanted written → IsFront true rest wanted (written ++ piece)
IsFront-other false rest wanted written piece other h = λ more e.
    let rest_is : rest ≡ piece ++ more =
    append_cancel_left written rest (piece ++ more) (sym h ∙ e ∙ append_assoc written piece more) in
    other_text (take (length piece) rest) piece (sym other) (ap (take (length piece)) rest_is ∙ take-append_seam piece more)
IsFront-other true rest wanted written piece other h = stays_other rest wanted written piece h

-- one more piece was written
more_held : (wanted written piece held : List ℕ) → held ≡ length wanted ∷ (wanted ++ written)
    → held ++ piece ≡ length wanted ∷ (wanted ++ (written ++ piece))
more_held = grind (arith, append_assoc)

pub Compared-more : (differs : Bool) (rest held piece : List ℕ) → pointwise nat_eq (take (length piece) rest) piece ≡ true
    → Compared differs rest held → Compared differs (drop (length piece) rest) (held ++ piece)
Compared-more differs rest held piece same h = record {
  wanted = h.wanted;
  written = h.written ++ piece;
  held_is = more_held h.wanted h.written piece held h.held_is;
  front = IsFront-more differs rest h.wanted h.written piece same h.front;
}

pub Compared-other : (differs : Bool) (rest held piece : List ℕ) → pointwise nat_eq (take (length piece) rest) piece ≡ false
    → Compared differs rest held → Compared true rest (held ++ piece)
Compared-other differs rest held piece other h = record {
  wanted = h.wanted;
  written = h.written ++ piece;
  held_is = more_held h.wanted h.written piece held h.held_is;
  front = IsFront-other differs rest h.wanted h.written piece other h.front;
}

-- the same for a write that takes its whole piece
pub took-more : (differs : Bool) (rest after held piece : List ℕ) → pointwise nat_eq (take (length piece) rest) piece ≡ true
    → after ≡ drop (length piece) rest → Compared differs rest held → Compared differs after (held ++ take (length piece) piece)
took-more = grind (arith, take-length, Compared-more)

pub took-other : (differs : Bool) (rest held piece : List ℕ) → pointwise nat_eq (take (length piece) rest) piece ≡ false
    → Compared differs rest held → Compared true rest (held ++ take (length piece) piece)
took-other = grind (arith, take-length, Compared-other)

-- two texts with the length of the first in front are equal only if both parts are
front_of_stated : (a b : List ℕ) (n m : ℕ) (c d : List ℕ) → n ≡ length a → m ≡ length c → n ∷ (a ++ b) ≡ m ∷ (c ++ d) → a ≡ c
front_of_stated a b n m c d is is' e =
    let same : take (length a) (a ++ b) ≡ take (length c) (c ++ d) = cc in
    grind (arith, take-append_seam)

rest_of_stated : (a b : List ℕ) (n m : ℕ) (c d : List ℕ) → n ≡ length a → m ≡ length c → n ∷ (a ++ b) ≡ m ∷ (c ++ d) → b ≡ d
rest_of_stated a b n m c d is is' e =
    let same : drop (length a) (a ++ b) ≡ drop (length c) (c ++ d) = cc in
    grind (arith, drop-append_seam)

-- the state after the text was written
pub front_of : (differs : Bool) (rest wanted text : List ℕ) → Compared differs rest (length wanted ∷ (wanted ++ text))
    → IsFront differs rest wanted text
front_of = grind (arith, front_of_stated, rest_of_stated)

none_of : (rest : List ℕ) → length rest ≡ 0 → rest ≡ []
none_of [] e = refl
none_of (byte ∷ rest) e = absurd (omega arith)

-- the state shows whether the text is the expected one
pub stated_by_rest : (differs : Bool) (rest wanted text : List ℕ) (result : Bool) → differs ≡ false → result ≡ (length rest == 0)
    → Compared differs rest (length wanted ∷ (wanted ++ text)) → Decides result (wanted ≡ text)
stated_by_rest differs rest wanted text result e is h =
    let outcome : Compared false rest (length wanted ∷ (wanted ++ text)) =
    subst (λ d. Compared d rest (length wanted ∷ (wanted ++ text))) e h in
    let front : wanted ≡ text ++ rest = front_of false rest wanted text outcome in
    let test = Decides-eqb (length rest) 0 in
    subst (λ r. Decides r (wanted ≡ text)) (sym is) (
      λ yes. front ∙ ap (λ l. text ++ l) (none_of rest (test.0 yes)) ∙ append-nil text,
      λ same. test.1 (omega (arith, ap length front, ap length same, length-append text rest)),
    )

pub stated_other : (differs : Bool) (rest wanted text : List ℕ) → differs ≡ true →
    Compared differs rest (length wanted ∷ (wanted ++ text)) → Decides (not differs) (wanted ≡ text)
stated_other differs rest wanted text e h =
    let outcome : Compared true rest (length wanted ∷ (wanted ++ text)) =
    subst (λ d. Compared d rest (length wanted ∷ (wanted ++ text))) e h in
    let other : (more : List ℕ) → wanted ≢ text ++ more = front_of true rest wanted text outcome in
    subst (λ d. Decides (not d) (wanted ≡ text)) (sym e)
    (λ yes. absurd (cc), λ same. absurd (other [] (same ∙ sym (append-nil text))))
