-- How the text that was put to an output grows, piece by piece and line by line.
use Rattle.std.proofs.Common.{arith, ◌≡◌, ◌∙◌, refl, ap, subst, ℕ, true, List, [], ◌∷◌, ◌++◌, take, append_assoc, append-nil}
use Rattle.std.specs.List.{flat_map}
use Rattle.mpslp_io.specs.declared.devices.Sink.{Ghosts as SinkOf}
use Rattle.mpslp_io.specs.{TextBuffer.{text_by, text_under}, Printing.{IsSameOutput, Holds, Puts, PutsWaiting, HasHeader, Prints}}
use Rattle.mpslp_io.{specs.{Printing.{PrintsSection}, declared.output.Output.{Output}}, proofs.LinesAtLemmas.{flat_map-rest}}
use Rattle.mpslp_io.proofs.BufferLemmas.{HasPut-cut, put_same, text_by-append, text_under-append, header_left-append}

same_always : {W : Type 0} {a : Output W} → IsSameOutput a a
same_always = grind arith

pub same_then : {W : Type 0} {a b c : Output W} → IsSameOutput a b → IsSameOutput b c → IsSameOutput a c
same_then = grind arith

-- ---- pieces one after another

module _ {W : Type 0} {k : SinkOf W} where
  pub puts_then : {a b c : Output W} {front back : List ℕ} → Puts k a b front → Puts k b c back → Puts k a c (front ++ back)
  puts_then = grind (arith, same_then, put_same, append_assoc)

  pub puts_same : {a b : Output W} {piece other : List ℕ} → piece ≡ other → Puts k a b piece → Puts k a b other
  puts_same {a} {b} same h = subst (Puts k a b) same h

  -- a piece between two others, and what follows them
  pub puts_between : {a b c : Output W} {rest : List ℕ} (front piece back : List ℕ) → Puts k a b (front ++ (piece ++ back))
      → Puts k b c rest → Puts k a c (front ++ (piece ++ (back ++ rest)))
  puts_between {rest = rest} front piece back before after = puts_same (append_assoc front (piece ++ back) rest
      ∙ ap (λ (l : List ℕ). front ++ l) (append_assoc piece back rest)) (puts_then before after)

  pub puts_nothing : (o : Output W) → Puts k o o []
  puts_nothing = grind (arith, same_always, put_same, append-nil)

  -- after the sink has failed, what is put does not matter
  cut : (o : Output W) (back : List ℕ) → o.buffer.now.has_failed ≡ true → Puts k o o back
  cut o back fails = record {
    same = same_always;
    puts = λ first text header g. HasPut-cut k.holds k.failed k.count first o.sink.now o.buffer.now text back header
        header fails g;
  }

  pub puts_cut : {a b : Output W} {front : List ℕ} (back : List ℕ) → b.buffer.now.has_failed ≡ true → Puts k a b front
      → Puts k a b (front ++ back)
  puts_cut {b = b} back fails h = puts_then h (cut b back fails)

  -- another header waits
  pub put_under : {first : W} {a b : Output W} {text other before header : List ℕ} → HasHeader header a b → text ≡ other
      → Holds k first a text before → Holds k first b other header
  put_under {first} {a} {b} {text} {other} {before} {header} = grind arith

-- ---- lines one after another

module _ {W L : Type 0} {line_text : L → List ℕ} {k : SinkOf W} where
  pub prints_nothing : (o : Output W) → Prints line_text k o o []
  prints_nothing = grind (arith, same_always, put_same, append-nil)

  pub prints_then : {a b c : Output W} {front back : List L} → Prints line_text k a b front → Prints line_text k b c back
      → Prints line_text k a c (front ++ back)
  prints_then = grind (arith, same_then, put_same, append_assoc, text_under-append, header_left-append)

  pub prints_same : {a b : Output W} {lines other : List L} → lines ≡ other → Prints line_text k a b lines →
      Prints line_text k a b other
  prints_same {a} {b} = grind arith

  -- pieces that are the text of a line, below the header
  pub prints_line : {a b c : Output W} {piece : List ℕ} {line : L} → piece ≡ text_by line_text (line ∷ []) → PutsWaiting k a b
      → Puts k b c piece
      → Prints line_text k a c (line ∷ [])
  prints_line = grind (arith, same_then, put_same, append_assoc, puts_same)

  -- after the sink has failed, the other entries do not matter
  pub prints_cut : {X : Type 0} {a b : Output W} (f : X → List L) (xs : List X) (i : ℕ) → b.buffer.now.has_failed ≡ true
      → Prints line_text k a b (flat_map f (take i xs)) → Prints line_text k a b (flat_map f xs)
  prints_cut {b = b} f xs i fails h =
      prints_same (flat_map-rest f xs i) (prints_then h (record {
        same = same_always;
        puts = λ first text header g. HasPut-cut k.holds k.failed k.count first b.sink.now b.buffer.now text _ header _ fails g;
      }))

  -- ---- sections one after another

  -- lines before which no header waits
  pub section_of : {a b : Output W} {lines : List L} → Prints line_text k a b lines → PrintsSection line_text k a b lines
  section_of = grind arith

  pub section_then : {a b c : Output W} {front back : List L} → PrintsSection line_text k a b front →
      PrintsSection line_text k b c back → PrintsSection line_text k a c (front ++ back)
  section_then = grind (arith, same_then, put_same, append_assoc, text_by-append)

  pub section_same : {a b : Output W} {lines other : List L} → lines ≡ other → PrintsSection line_text k a b lines
      → PrintsSection line_text k a b other
  section_same {a} {b} = grind arith

  -- pieces that are the text of lines
  pub section_text : {a b : Output W} {piece : List ℕ} {lines : List L} → piece ≡ text_by line_text lines → Puts k a b piece
      → PrintsSection line_text k a b lines
  section_text = grind arith

  -- lines below a header that waits from now on, until none waits
  pub section_under : {a b c d : Output W} {lines other : List L} (header : List ℕ)
      → text_under line_text header lines ≡ text_by line_text other
      → HasHeader header a b → Prints line_text k b c lines → HasHeader [] c d → PrintsSection line_text k a d other
  section_under header same opens h closes = record {
    same = same_then opens.same (same_then h.same closes.same);
    puts = λ first text g. put_under closes (ap (λ (l : List ℕ). text ++ l) same)
        (h.puts first text header (put_under opens refl g));
  }
