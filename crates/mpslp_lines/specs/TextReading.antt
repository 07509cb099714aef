-- What is known of a text that is read in pieces, in any format, and its laws.
use Rattle.std.proofs.Common.{◌≡◌, refl, sym, subst, ℕ, List, ◌++◌, Bool, false}
use Rattle.std.specs.Prelude.{not, is_some, Option, Some, None}
use Rattle.std.specs.Str.Lines.{lines}
use Rattle.mpslp_types.specs.declared.faults.Fault.{Fault}
use Rattle.mpslp_model.specs.CompleteLines.{complete_lines, open_tail}
use Rattle.mpslp_model.proofs.CompleteLineLemmas.{lines-more}
use Rattle.mpslp_lines.specs.Pieces.{IsFed}
use Rattle.mpslp_lines.specs.declared.piece_reader.PieceReader.{PieceReader}

-- These bytes were read, and none was rejected.
abbrev pub IsFedAll : {L : Type 0} → (L → List (List ℕ) → Type 0) → (L → Bool) → Option (PieceReader L) → List ℕ → Type 0
IsFedAll has_read at_end None bytes = ⊥
IsFedAll has_read at_end (Some reader) bytes = IsFed has_read at_end reader bytes

-- The complete lines of these bytes have this error.
abbrev pub IsFaultOfComplete : (List (List ℕ) → Fault → Type 0) → List ℕ → Fault → Type 0
IsFaultOfComplete lines_fault bytes fault = lines_fault (complete_lines bytes) fault

-- A reader that has read bytes still reads.
pub fed-works : {L : Type 0} (has_read : L → List (List ℕ) → Type 0) (at_end : L → Bool) (reader : Option (PieceReader L)) (bytes : List ℕ)
    → IsFedAll has_read at_end reader bytes → not (is_some reader) ≡ false
fed-works has_read at_end None bytes h = absurd h
fed-works has_read at_end (Some reader) bytes h = refl

-- No complete line of the bytes that were read has an error.
pub fed-is_clean : {L : Type 0} (has_read : L → List (List ℕ) → Type 0) (at_end : L → Bool) (lines_fault : List (List ℕ) → Fault → Type 0)
    → ((reader : L) (text : List (List ℕ)) (fault : Fault) → has_read reader text → lines_fault text fault → ⊥)
    → (reader : Option (PieceReader L)) (bytes : List ℕ) (fault : Fault) → IsFedAll has_read at_end reader bytes → IsFaultOfComplete lines_fault bytes fault → ⊥
fed-is_clean has_read at_end lines_fault clean None bytes fault h found = h
fed-is_clean has_read at_end lines_fault clean (Some reader) bytes fault h found = clean reader.lines (complete_lines bytes) fault h.complete found

-- The first error of the complete lines is that of the whole text, whatever follows.
pub complete-is_first : (lines_fault : List (List ℕ) → Fault → Type 0) (first_fault : List ℕ → Fault → Type 0)
    → ((text more : List (List ℕ)) (fault : Fault) → lines_fault text fault → lines_fault (text ++ more) fault)
    → ((bytes : List ℕ) (fault : Fault) → lines_fault (lines bytes) fault → first_fault bytes fault)
    → (bytes more : List ℕ) (fault : Fault) → IsFaultOfComplete lines_fault bytes fault → first_fault (bytes ++ more) fault
complete-is_first lines_fault first_fault stays is_first bytes more fault h =
    is_first (bytes ++ more) fault
    (subst (λ (text : List (List ℕ)). lines_fault text fault) (sym (lines-more bytes more))
    (stays (complete_lines bytes) (lines (open_tail bytes ++ more)) fault h))
