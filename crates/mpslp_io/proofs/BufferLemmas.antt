-- How the text that was put is sent to the sink, and what the caller learns of it.
use Rattle.std.proofs.Common.{◌≡◌, refl, sym, ap, subst, ◌∙◌, ℕ, ◌+◌, ◌-◌, ◌^◌, ◌<◌, ◌≤◌, min, Bool, true, false, inl, inr, List, [], ◌∷◌}
use Rattle.std.{proofs.Common.{◌++◌, length, take, append_assoc, append-nil, arith}, specs.Prelude.{Result, IsOk}}
use Rattle.std.proofs.{Math.Seq.{take-append-add}, lemmas.{Bool.{cases_lt}, List.{length-append, take-append-le}}}
use Rattle.mpslp_types.specs.declared.faults.WriteFault.{WriteFault}
use Rattle.mpslp_io.{specs.Devices.{Grows, TookMore, TookFirst, IsTaken}, proofs.GrowsLemmas.{Grows-append}}
use Rattle.mpslp_io.specs.TextBuffer.{BufferState, buffer_state, HasPut, text_by, text_under, header_left}

pub text_by-append : {L : Type 0} (line_text : L → List ℕ) (front back : List L)
    → text_by line_text (front ++ back) ≡ text_by line_text front ++ text_by line_text back
text_by-append line_text [] back = refl
text_by-append line_text (line ∷ front) back = grind (arith, append_assoc, text_by-append line_text front back)

not_both : {b : Bool} → b ≡ true → b ≡ false → ⊥
not_both p q = absurd cc

-- ---- lines below a header

module _ {L : Type 0} (line_text : L → List ℕ) where
  pub no-header : (lines : List L) → text_under line_text [] lines ≡ text_by line_text lines
  no-header = grind arith

  -- part by part
  pub text_under-append : (header : List ℕ) (front back : List L)
      → text_under line_text header front
      ++ text_under line_text (header_left header front) back ≡ text_under line_text header (front ++ back)
  text_under-append = grind (arith, no-header, append_assoc, text_by-append)

pub none-after : {L : Type 0} (lines : List L) → header_left [] lines ≡ []
none-after = grind arith

pub header_left-append : {L : Type 0} (header : List ℕ) (front back : List L)
    → header_left (header_left header front) back ≡ header_left header (front ++ back)
header_left-append = grind arith

module _ {S : Type 0} (holds : S → List ℕ → Type 0) (failed : S → Bool) (count : S → ℕ) where
  -- a prefix that a sink accepted is a prefix of any longer text
  TookFirst-more : (first now : S) (text more : List ℕ) (stated : ℕ) → TookFirst holds first now text stated
      → TookFirst holds first now (text ++ more) stated
  TookFirst-more = grind (arith, length-append, take-append-le)

  -- the sink accepted all that waited
  pub HasPut-sent : (first old new : S) (text header piece : List ℕ) (taken later : ℕ)
      → (waits : List ℕ) → HasPut holds failed count first old (buffer_state waits piece taken false) text header
      → Grows holds old new piece
      → later ≡ min (taken + length piece) (2 ^ 64 - 1) → count new ≤ count old + length piece →
      (failed old ≡ true → failed new ≡ true) → (0 < length piece → failed new ≡ false) → (length piece ≡ 0 → new ≡ old)
      → HasPut holds failed count first new (buffer_state waits [] later false) text header
  HasPut-sent first old new text header piece taken later waits h grows is calls stays works same = record {
    under_way = λ _.
        let was = h.under_way refl in
        let whole : length text ≡ length was.sent + length piece = ap length was.parts ∙ length-append was.sent piece in
        let before = was.taken_is in
        let called = was.calls in
        record {
          header_is = was.header_is;
          sent = text;
          parts = sym (append-nil text);
          sent_is = subst (Grows holds first new) (sym was.parts)
              (Grows-append holds first old new was.sent piece was.sent_is grows);
          taken_is = omega arith;
          calls = omega arith;
          stays = λ f. stays (was.stays f);
          works = λ some. elim (cases_lt 0 (length piece)) [
            | inl more ↦ works more
            | inr none ↦
                let e : length piece ≡ 0 = omega arith in
                subst (λ s. failed s ≡ false) (sym (same e)) (was.works (omega arith))
          ];
        };
    cut_off = λ fails. absurd (not_both fails refl);
  }

  -- the sink failed on what waited
  pub HasPut-failed : (first old new : S) (text header piece : List ℕ) (taken later : ℕ)
      → (waits : List ℕ) → HasPut holds failed count first old (buffer_state waits piece taken false) text header
      → TookMore holds old new piece taken later
      → count new ≤ count old + length piece → failed new ≡ true
      → HasPut holds failed count first new (buffer_state waits [] later true) text header
  HasPut-failed first old new text header piece taken later waits h took calls fails = record {
    under_way = λ works. absurd (not_both refl works);
    cut_off = λ _.
        let was = h.under_way refl in
        let whole : length text ≡ length was.sent + length piece = ap length was.parts ∙ length-append was.sent piece in
        let before = was.taken_is in
        let called = was.calls in
        let within = took.within in
        let tally = took.tally_is in
        let cut : take (length was.sent + took.count) text ≡ was.sent ++ take took.count piece =
        ap (take (length was.sent + took.count)) was.parts ∙ take-append-add was.sent piece took.count in
        record {
          fails = fails;
          took = record {
            count = length was.sent + took.count;
            within = omega arith;
            reported_is = omega arith;
            holds_them = subst (Grows holds first new) (sym cut)
                (Grows-append holds first old new was.sent _ was.sent_is took.holds_them);
          };
          calls = omega arith;
        };
  }

  -- nothing more is sent to a sink that has failed, whatever is put and whatever header waits
  pub HasPut-cut : (first now : S) (buffer : BufferState) (text more before header : List ℕ) → buffer.has_failed ≡ true
      → HasPut holds failed count first now buffer text before
      → HasPut holds failed count first now buffer (text ++ more) header
  HasPut-cut = grind (arith, not_both, length-append, TookFirst-more)

module _ {S : Type 0} {holds : S → List ℕ → Type 0} {failed : S → Bool} {count : S → ℕ} where
  -- the same text and waiting header, written differently
  pub put_same : {first now : S} {buffer : BufferState} {text other header more : List ℕ} → text ≡ other → header ≡ more
      → HasPut holds failed count first now buffer text header
      → HasPut holds failed count first now buffer other more
  put_same {first} {now} {buffer} {text} {other} {header} {more} = grind arith

-- ---- the result for the caller

pub taken-succeeds : {S : Type 0} (holds : S → List ℕ → Type 0) (failed : S → Bool) (first now : S) (text : List ℕ)
    (r : Result (Unit {0}) WriteFault)
    → IsTaken holds failed first now text r → failed now ≡ false → IsOk r
taken-succeeds = grind arith
