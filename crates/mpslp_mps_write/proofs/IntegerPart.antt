-- The integer columns between marker lines: the first marker waits as a header, and the last is put if there are lines.
use Rattle.std.proofs.Common.{◌≡◌, refl, ℕ, Bool, true, false, not, List, [], ◌∷◌, ◌++◌, length, append_assoc, arith}
use Rattle.std.{specs.Prelude.{◌&&◌, ◌==◌}, proofs.lemmas.Bool.{eqb-true}}
use Rattle.mpslp_types.proofs.BoolLemmas.{not_so}
use Rattle.mpslp_mps_fields.specs.{DataLine.{opening_word, closing_word}, Line.{keyword_of}, declared.sections.Section.{Section}}
use Rattle.mpslp_mps_text.specs.CanonicalMps.{Lines, integer_part, marker_line, line_text, text_of, under_header}
use Rattle.mpslp_io.specs.declared.devices.Sink.{Ghosts as SinkOf}
use Rattle.mpslp_io.specs.{TextBuffer.{BufferState, text_under, header_left}, Printing.{Holds, Puts, HasHeader, Prints, PrintsSection}}
use Rattle.mpslp_io.specs.declared.output.Output.{Output}
use Rattle.mpslp_io.proofs.{BufferLemmas.{text_by-append, put_same, HasPut-cut}, OutputLemmas.{same_then, put_under}}

-- the text of a section with its header
pub under-text : (section : Section) (header : List ℕ) (lines : Lines) → header ≡ keyword_of section ++ 10 ∷ []
    → text_under line_text header lines ≡ text_of (under_header section lines)
under-text = grind arith

abbrev first_marker : List ℕ
first_marker = text_of (marker_line opening_word ∷ [])

abbrev last_marker : List ℕ
last_marker = text_of (marker_line closing_word ∷ [])

-- no header waits, as `close_section` returns at the end of a section
abbrev has_lines : BufferState → Bool
has_lines buffer = not buffer.has_failed && (length buffer.header == 0)

no-length : (bytes : List ℕ) → (length bytes == 0) ≡ true → bytes ≡ []
no-length [] h = refl
no-length (byte ∷ bytes) h = grind (arith, eqb-true)

no-marker : first_marker ≡ [] → ⊥
no-marker e = cc

-- between the markers
between : (text : List ℕ) (lines : Lines)
    → (text ++ (first_marker ++ text_of lines)) ++ last_marker ≡ text ++ (first_marker ++ text_of
    (lines ++ marker_line closing_word ∷ []))
between = grind (arith, append_assoc, text_by-append)

module _ {W : Type 0} {k : SinkOf W} where
  pub integer_some : {a b c d e : Output W} {lines : Lines} → HasHeader first_marker a b →
      Prints line_text k b c lines → HasHeader [] c d → has_lines c.buffer.now ≡ true → Puts k d e last_marker →
      PrintsSection line_text k a e (integer_part lines)
  integer_some {c = c} {e = e} {lines} opens h closes some last = record {
    same = same_then opens.same (same_then h.same (same_then closes.same last.same));
    puts = λ first text g. by lines first text (h.puts first text first_marker (put_under opens refl g));
  }
    where
      none_waits : c.buffer.now.header ≡ []
      none_waits = grind (arith, no-length)

      by : (lines : Lines) (first : W) (text : List ℕ)
          → Holds k first c (text ++ text_under line_text first_marker lines) (header_left first_marker lines)
          → Holds k first e (text ++ text_of (integer_part lines)) []
      by [] first text put = grind (arith, not_so, no-marker)
      by (line ∷ lines) first text put =
          put_same (between text (line ∷ lines)) refl (last.puts first _ [] (put_under closes refl put))

  pub integer_none : {a b c d : Output W} {lines : Lines} → HasHeader first_marker a b → Prints line_text k b c lines →
      HasHeader [] c d → has_lines c.buffer.now ≡ false → PrintsSection line_text k a d (integer_part lines)
  integer_none {c = c} {lines = lines} opens h closes none = record {
    same = same_then opens.same (same_then h.same closes.same);
    puts =
        λ first text g. put_under closes refl
        (by lines c.buffer.now.has_failed refl first text (h.puts first text first_marker (put_under opens refl g)));
  }
    where
      by : (lines : Lines) (has_failed : Bool) → c.buffer.now.has_failed ≡ has_failed → (first : W) (text : List ℕ)
          → Holds k first c (text ++ text_under line_text first_marker lines) (header_left first_marker lines)
          → Holds k first c (text ++ text_of (integer_part lines)) (header_left first_marker lines)
      by [] has_failed is first text put = put
      by (line ∷ lines) true fails first text put =
          put_same (between text (line ∷ lines)) refl
          (HasPut-cut k.holds k.failed k.count first c.sink.now c.buffer.now _ last_marker [] [] fails put)
      by (line ∷ lines) false works first text put = grind arith
