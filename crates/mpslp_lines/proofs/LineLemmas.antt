-- The lines that bstr finds are those of std's `lines`.
use Rattle.std.proofs.Common.{Bool, List, [], ap, arith, drop, false, inl, inr, length, length-append, map, refl, suc, sym, take, zero, ℕ}
use Rattle.std.proofs.{Common.{◌++◌, ◌-◌, ◌<◌, ◌∙◌, ◌∷◌, ◌≡◌, ◌≤◌, ◌⊎◌}, Math.Seq.{drop-append_seam, drop-length, take-append_seam}}
use Rattle.std.{proofs.{Math.Seq.take-length, lemmas.Bool.{lt-ltb, Decides.nat_tests}}, specs.{List.slice_split, Prelude.slice_index}}
use Rattle.std.specs.{Prelude.◌==◌, Str.Lines.{lines, lines_of_parts, strip_carriage_return}}
use Rattle.bstr.{proofs.lemmas.LineLemmas.{lines-nil, lines-step}, specs.Text.{line_len, lines_of, no_cr, without_terminator}}

abbrev pub is_feed : ℕ → Bool
is_feed b = b == 10

-- no line feed, or the first line and the rest after its line feed
pub record Whole (w : List ℕ) : Type 0 where
  pub split : slice_split is_feed w ≡ w ∷ []
  pub len : line_len w ≡ length w
  pub none : (i : ℕ) → i < length w → is_feed (slice_index w i) ≡ false

pub record Cut (w first rest : List ℕ) : Type 0 where
  pub is : w ≡ (first ++ 10 ∷ []) ++ rest
  pub split : slice_split is_feed w ≡ first ∷ slice_split is_feed rest
  pub len : line_len w ≡ length (first ++ 10 ∷ [])

pub cut : (w : List ℕ) → Whole w ⊎ ((first rest : List ℕ) × Cut w first rest)
unfolding line_len
cut [] = grind arith
cut (b ∷ w) = grind (arith, cut w)

at_end : (first : List ℕ) → slice_index (first ++ 10 ∷ []) (length first) ≡ 10
at_end [] = refl
at_end (x ∷ xs) = at_end xs

no_cr-strip : (w : List ℕ) → no_cr w ≡ strip_carriage_return w
no_cr-strip [] = refl
no_cr-strip (b ∷ w) = grind arith

without_terminator-feed : (t : List ℕ) (n : ℕ) → length t - 1 ≡ n → 0 < length t → slice_index t n ≡ 10
    → without_terminator t ≡ no_cr (take n t)
without_terminator-feed t n e h at = rw (e, lt-ltb 0 (length t) h, at) refl

terminated : (first : List ℕ) → without_terminator (first ++ 10 ∷ []) ≡ strip_carriage_return first
terminated first =
    let more = length-append first (10 ∷ []) in
    let last : length (first ++ 10 ∷ []) - 1 ≡ length first = omega (arith, more) in
    let some : 0 < length (first ++ 10 ∷ []) = omega (arith, more) in
    without_terminator-feed _ _ last some (at_end first) ∙ ap no_cr (take-append_seam first (10 ∷ [])) ∙ no_cr-strip first

unterminated : (w : List ℕ) → Whole w → without_terminator w ≡ w
unterminated = grind arith

lone : (w : List ℕ) → 0 < length w → lines_of_parts (w ∷ []) ≡ w ∷ []
lone w h = let e : (length w == 0) ≡ false = grind (arith, nat_tests) in rw e refl

pub lines_within : (n : ℕ) (w : List ℕ) → length w ≤ n → map without_terminator (lines_of w) ≡ lines w
lines_within n [] h = grind (arith, lines-nil)
lines_within zero (b ∷ w) h = absurd (omega arith)
lines_within (suc n) (b ∷ w) h =
    let some : 0 < length (b ∷ w) = omega arith in
    elim (cut (b ∷ w)) [
      | inl c ↦
          let front : take (line_len (b ∷ w)) (b ∷ w) ≡ b ∷ w = rw c.len (take-length (b ∷ w)) in
          let back : drop (line_len (b ∷ w)) (b ∷ w) ≡ [] = rw c.len (drop-length (b ∷ w)) in
          ap (map without_terminator) (lines-step (b ∷ w) some)
          ∙ (λ i. without_terminator (front i) ∷ map without_terminator (lines_of (back i)))
          ∙ (λ i. unterminated (b ∷ w) c i ∷ map without_terminator (lines-nil i))
          ∙ sym (ap lines_of_parts c.split ∙ lone (b ∷ w) some)
      | inr c ↦
          let first = c.0 in
          let rest = c.1 in
          let front = (λ i. take (c.2.len i) (c.2.is i)) ∙ take-append_seam _ rest in
          let back = (λ i. drop (c.2.len i) (c.2.is i)) ∙ drop-append_seam (first ++ 10 ∷ []) rest in
          let shorter : length rest ≤ n =
          omega (arith, ap length c.2.is, length-append (first ++ 10 ∷ []) rest, length-append first (10 ∷ [])) in
          ap (map without_terminator) (lines-step (b ∷ w) some)
          ∙ (λ i. without_terminator (front i) ∷ map without_terminator (lines_of (back i)))
          ∙ (λ i. terminated first i ∷ lines_within n rest shorter i)
          ∙ sym (ap lines_of_parts c.2.split ∙ grind (arith, cut))
    ]
