-- Laws of a reader of MPS text in pieces. They are in `specs/` because its `impl` cites them.
use Rattle.std.proofs.Common.{◌≡◌, refl, sym, ap, ◌∙◌, ℕ, ◌+◌, suc, List, [], ◌∷◌, ◌++◌, take, Bool, true, false, cond, arith}
use Rattle.std.specs.Prelude.{◌||◌, not, Option, Some, None}
use Rattle.std.specs.List.{position_or_len, list_any}
use Rattle.std.proofs.lemmas.List.Folds.{list_any-append}
use Rattle.std.specs.Option.{option_or, option_map}
use Rattle.std.specs.Str.Lines.{lines}
use Rattle.mpslp_builder.specs.Declaration.{Draft, empty_draft, with_declarations}
use Rattle.mpslp_types.specs.declared.faults.Fault.{Fault}
use Rattle.mpslp_lines.specs.FaultTests.{fault_on_line}
use Rattle.mpslp_mps_fields.specs.Line.{LineContent, content_of}
use Rattle.mpslp_mps.specs.Context.{context_of}
use Rattle.mpslp_mps.specs.NextContext.{kept_context}
use Rattle.mpslp_mps.specs.MpsText.{LineInContext, is_end, lines_in_context_after, declared_at}
use Rattle.mpslp_mps.specs.FirstFault.{line_fault, first_line_fault, whole_mps_fault, IsFirstMpsFault}
use Rattle.mpslp_mps.specs.LineByLine.{draft_from, context_from}
use Rattle.mpslp_mps.specs.ReadAnswer.{lines_to_end}
use Rattle.mpslp_mps.specs.Fed.{lines_fault, IsFaultOfLines, HasRead, is_ended}
use Rattle.mpslp_mps.specs.declared.line_reader.LineReader.{LineReader}

-- ---- the lines up to that of ENDATA

pub to_end-last : (line : List ℕ) (more : List (List ℕ)) → is_end line ≡ true → lines_to_end (line ∷ more) ≡ line ∷ []
to_end-last line more h = ap (λ (b : Bool). take (suc (cond (not b) (1 + position_or_len is_end more) 0)) (line ∷ more)) h

pub to_end-more : (line : List ℕ) (more : List (List ℕ)) → is_end line ≡ false → lines_to_end (line ∷ more) ≡ line ∷ lines_to_end more
to_end-more line more h =
    let e : 1 + position_or_len is_end more ≡ suc (position_or_len is_end more) = omega arith in
    ap (λ (b : Bool). take (suc (cond (not b) (1 + position_or_len is_end more) 0)) (line ∷ more)) h
    ∙ ap (λ (n : ℕ). take (suc n) (line ∷ more)) e

-- ---- the first error

-- of a line, or of those after it
stays-first : (own : Option Fault) (rest later : Option Fault) (fault : Fault) → (rest ≡ Some fault → later ≡ Some fault)
    → option_or own rest ≡ Some fault → option_or own later ≡ Some fault
stays-first None rest later fault on h = on h
stays-first (Some found) rest later fault on h = h

first_fault-stays : (text more : List (List ℕ)) (n : ℕ) (before : List LineContent) (earlier : Draft) (fault : Fault)
    → first_line_fault n (lines_in_context_after before earlier (lines_to_end text)) ≡ Some fault
    → first_line_fault n (lines_in_context_after before earlier (lines_to_end (text ++ more))) ≡ Some fault
first_fault-stays [] more n before earlier fault h = cc
first_fault-stays (line ∷ text) more n before earlier fault h =
    elim (is_end line) as (λ b. is_end line ≡ b → found (line ∷ (text ++ more)) ≡ Some fault) [
      | true ↦ λ e. ap (λ (read : List (List ℕ)). of read) (to_end-last line (text ++ more) e ∙ sym (to_end-last line text e)) ∙ h
      | false ↦ λ e.
          ap of (to_end-more line (text ++ more) e)
          ∙ stays-first own (of_more (lines_to_end text)) (of_more (lines_to_end (text ++ more))) fault
          (first_fault-stays text more (n + 1) (before ++ content_of line ∷ []) next fault) (sym (ap of (to_end-more line text e)) ∙ h)
    ] refl
  where
    here : LineInContext
    here = record { context = context_of before; earlier = earlier; line = line }

    next : Draft
    next = with_declarations earlier (declared_at here)

    own : Option Fault
    own = option_map (fault_on_line n) (line_fault here)

    of : List (List ℕ) → Option Fault
    of read = first_line_fault n (lines_in_context_after before earlier read)

    found : List (List ℕ) → Option Fault
    found read = of (lines_to_end read)

    of_more : List (List ℕ) → Option Fault
    of_more read = first_line_fault (n + 1) (lines_in_context_after (before ++ content_of line ∷ []) next read)

-- The first error of some lines is that of more lines.
pub lines_fault-stays : (text more : List (List ℕ)) (fault : Fault) → lines_fault text ≡ Some fault → lines_fault (text ++ more) ≡ Some fault
lines_fault-stays text more fault h = first_fault-stays text more 1 [] empty_draft fault h

-- If it is that of all lines, it is that of the text.
pub lines_fault-is_first : (bytes : List ℕ) (fault : Fault) → IsFaultOfLines (lines bytes) fault → IsFirstMpsFault bytes fault
lines_fault-is_first bytes fault h = ap (λ (o : Option Fault). option_or o (whole_mps_fault bytes)) h

-- ---- lines after that of ENDATA

-- if one of the lines is that of ENDATA, no line after them is read
ended-more : (xs ys : List (List ℕ)) → list_any is_end xs ≡ true → lines_to_end (xs ++ ys) ≡ lines_to_end xs
ended-more [] ys h = cc
ended-more (line ∷ xs) ys h =
    elim (is_end line) as (λ b. is_end line ≡ b → (b || list_any is_end xs) ≡ true → lines_to_end (line ∷ (xs ++ ys)) ≡ lines_to_end (line ∷ xs)) [
      | true ↦ λ e k. to_end-last line (xs ++ ys) e ∙ sym (to_end-last line xs e)
      | false ↦ λ e k. to_end-more line (xs ++ ys) e ∙ ap (λ (read : List (List ℕ)). line ∷ read) (ended-more xs ys k) ∙ sym (to_end-more line xs e)
    ] refl h

pub read-after_end : (reader : LineReader) (text more : List (List ℕ)) → HasRead reader text → is_ended reader ≡ true → HasRead reader (text ++ more)
read-after_end reader text more led at_end =
    let ended = sym led.ended ∙ at_end in
    let same = ended-more text more ended in
    let any : list_any is_end (text ++ more) ≡ true = list_any-append is_end text more ∙ ap (λ (b : Bool). b || list_any is_end more) ended in
    record {
      clean = ap (λ (read : List (List ℕ)). first_line_fault 1 (lines_in_context_after [] empty_draft read)) same ∙ led.clean;
      context_is = led.context_is ∙ ap (λ (read : List (List ℕ)). kept_context (context_from (context_of []) read)) (sym same);
      draft = led.draft ∙ ap (draft_from (context_of []) empty_draft) (sym same);
      ended = at_end ∙ sym any;
      counted = λ h. let both : true ≡ false = sym any ∙ h in cc;
    }

-- ---- a reader

-- No line that was read has an error.
pub read-is_clean : (reader : LineReader) (text : List (List ℕ)) (fault : Fault) → HasRead reader text → IsFaultOfLines text fault → ⊥
read-is_clean reader text fault led found = let both : None ≡ Some fault = sym led.clean ∙ found in cc
