-- What is known of a text that is read in pieces, and what a reader keeps of it.
use Rattle.std.specs.Prelude.{◌≡◌, ℕ, Bool, true, List, [], ◌++◌, Result, MatchResult, if◌then◌else◌}
use Rattle.std.specs.Str.Lines.{lines}
use Rattle.mpslp_types.specs.declared.faults.Fault.{Fault}
use Rattle.mpslp_types.specs.declared.faults.ReadFault.{ReadFault}
use Rattle.mpslp_types.specs.declared.faults.ReadFault.TheVariants.{File, Failed, OutOfMemory}
use Rattle.mpslp_model.specs.CompleteLines.{complete_lines, open_tail}
use Rattle.mpslp_lines.specs.OpenLine.{Keeps}
use Rattle.mpslp_lines.specs.declared.piece_reader.PieceReader.{PieceReader}

-- the bytes that are still to be read: none after the line that ends the text
abbrev pub unread : Bool → List ℕ → List ℕ
unread is_ended bytes = if is_ended then [] else open_tail bytes

-- All of these bytes were passed to the reader: the complete lines are read, and the bytes after them are kept.
pub record IsFed {L : Type 0} (has_read : L → List (List ℕ) → Type 0) (at_end : L → Bool) (reader : PieceReader L) (bytes : List ℕ) : Type 0 where
  pub complete : has_read reader.lines (complete_lines bytes)
  pub kept : Keeps reader.open_line (unread (at_end reader.lines) bytes)

-- Some bytes were passed to it.
pub record WasFed {L : Type 0} (has_read : L → List (List ℕ) → Type 0) (at_end : L → Bool) (reader : PieceReader L) : Type 0 where
  pub bytes : List ℕ
  pub fed : IsFed has_read at_end reader bytes

-- After the line that ends the text was read, nothing is kept.
abbrev pub KeepsNothingAfterEnd : {L : Type 0} → (L → Bool) → PieceReader L → Type 0
KeepsNothingAfterEnd at_end reader = at_end reader.lines ≡ true → reader.open_line.bytes ≡ []

-- A piece after other bytes completes the line that has the first error; or an allocation failed.
abbrev pub RefusesPiece : {L : Type 0} → (L → List (List ℕ) → Type 0) → (L → Bool) → (List (List ℕ) → Fault → Type 0) → PieceReader L → List ℕ → ReadFault → Type 0
RefusesPiece has_read at_end lines_fault old piece (File fault) = (bytes : List ℕ) → IsFed has_read at_end old bytes → lines_fault (complete_lines (bytes ++ piece)) fault
RefusesPiece has_read at_end lines_fault old piece Failed = ⊥
RefusesPiece has_read at_end lines_fault old piece OutOfMemory = Unit {0}

-- A piece was read after other bytes, or an error is returned.
abbrev pub Feeds : {L : Type 0} → (L → List (List ℕ) → Type 0) → (L → Bool) → (List (List ℕ) → Fault → Type 0) → PieceReader L → List ℕ → PieceReader L → Result (Unit {0}) ReadFault → Type 0
Feeds has_read at_end lines_fault old piece new answer =
    MatchResult answer (λ _. (bytes : List ℕ) → IsFed has_read at_end old bytes → IsFed has_read at_end new (bytes ++ piece)) (RefusesPiece has_read at_end lines_fault old piece)

-- If these bytes are the whole text, all its lines are read, or one of them has the first error.
abbrev pub RefusesText : {L : Type 0} → (L → List (List ℕ) → Type 0) → (L → Bool) → (List ℕ → Fault → Type 0) → PieceReader L → ReadFault → Type 0
RefusesText has_read at_end first_fault old (File fault) = (bytes : List ℕ) → IsFed has_read at_end old bytes → first_fault bytes fault
RefusesText has_read at_end first_fault old Failed = ⊥
RefusesText has_read at_end first_fault old OutOfMemory = Unit {0}

abbrev pub EndsText : {L : Type 0} → (L → List (List ℕ) → Type 0) → (L → Bool) → (List ℕ → Fault → Type 0) → PieceReader L → PieceReader L → Result (Unit {0}) ReadFault → Type 0
EndsText has_read at_end first_fault old new answer =
    MatchResult answer (λ _. (bytes : List ℕ) → IsFed has_read at_end old bytes → has_read new.lines (lines bytes)) (RefusesText has_read at_end first_fault old)
