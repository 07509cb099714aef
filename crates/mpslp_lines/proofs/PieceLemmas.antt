-- A text that comes in pieces: what a reader has read after each, and what it keeps.
use Rattle.std.proofs.Common.{Bool, List, [], append-nil, append_assoc, arith, cond, false, length, length-take-le, refl, sym, take}
use Rattle.std.{proofs.Common.{true, ℕ, ◌++◌, ◌+◌, ◌<◌, ◌∷◌, ◌≡◌}, specs.{Prelude.{IsErrAnd, Ok, Result, nat_le, ◌-◌}, Str.Lines.lines}}
use Rattle.std.specs.Str.Lines.{strip_carriage_return}
use Rattle.mpslp_types.specs.declared.faults.{Fault.Fault, ReadFault.ReadFault}
use Rattle.mpslp_model.proofs.CompleteLineLemmas.{complete-ended, complete-from, complete-more, complete-same, last_line, lines-are}
use Rattle.mpslp_model.{proofs.CompleteLineLemmas.{open_tail-ended, open_tail-from, open_tail-on}, specs.CompleteLines.HasNoFeed}
use Rattle.mpslp_model.specs.{CompleteLines.{complete_lines, open_tail}, Readers.IsFedBy}
use Rattle.mpslp_lines.specs.{FaultTests.has_legal_length, LinesRead.{IsReader, ReadsOn, RefusesLines}, OpenLine.Keeps, Pieces.EndsText}
use Rattle.mpslp_lines.specs.Pieces.{Feeds, IsFed, RefusesPiece, RefusesText, WasFed, unread}
use Rattle.mpslp_lines.specs.declared.{legal_line.TheConstants.MAX_LINE_LEN, piece_reader.PieceReader.PieceReader}

-- ---- lines that are read one after another: some were read, and the others are left

-- some of these lines were read, and the others are left
pub record Passed {L : Type 0} (has_read : L → List (List ℕ) → Type 0) (old now : L) (all left : List (List ℕ)) : Type 0 where
  pub done : List (List ℕ)
  pub split : all ≡ done ++ left
  pub reads : (before : List (List ℕ)) → has_read old before → has_read now (before ++ done)

one_more : (done more : List (List ℕ)) (line : List ℕ) → done ++ line ∷ more ≡ (done ++ line ∷ []) ++ more
one_more done more line = sym (append_assoc done _ more)

module _ {L : Type 0} (has_read : L → List (List ℕ) → Type 0) where
  pub passed-none : (old : L) (all left : List (List ℕ)) → left ≡ all → Passed has_read old old all left
  passed-none = grind (arith, append-nil)

  pub passed-reader : (old now : L) (all left : List (List ℕ)) → Passed has_read old now all left → IsReader has_read old
      → IsReader has_read now
  passed-reader = grind arith

  -- all up to the one that ends the text
  pub passed-end : (at_end : L → Bool)
      → ((reader : L) (text more : List (List ℕ)) → has_read reader text → at_end reader ≡ true → has_read reader (text ++ more))
      → (old now : L) (all more : List (List ℕ)) → Passed has_read old now all more → at_end now ≡ true → (before : List (List ℕ))
      → has_read old before → has_read now (before ++ all)
  passed-end = grind (arith, append_assoc)

  module _ (lines_fault : List (List ℕ) → Fault → Type 0) where
    pub passed-line : (old now next : L) (all left more : List (List ℕ)) (line : List ℕ) → Passed has_read old now all left
        → left ≡ line ∷ more
        → ReadsOn has_read lines_fault now (line ∷ []) next (Ok tt) → Passed has_read old next all more
    passed-line = grind (arith, one_more, append_assoc)

    -- all of them
    pub passed-all : (old now : L) (all left : List (List ℕ)) → Passed has_read old now all left → left ≡ []
        → ReadsOn has_read lines_fault old all now (Ok tt)
    passed-all = grind (arith, append-nil)

    -- all up to one that is rejected
    module _ (fault_stays : (text more : List (List ℕ)) (fault : Fault) → lines_fault text fault →
        lines_fault (text ++ more) fault) where
      pub refuses-next : (old now : L) (all left more : List (List ℕ)) (line : List ℕ) (error : ReadFault) →
          Passed has_read old now all left → left ≡ line ∷ more
          → RefusesLines has_read lines_fault now (line ∷ []) error → RefusesLines has_read lines_fault old all error
      refuses-next = grind (arith, append_assoc, one_more)

-- ---- A text that comes in pieces: what a reader has read after each, and what it keeps.

-- ---- the line that is kept

short_of : (line : List ℕ) (b : Bool) → MAX_LINE_LEN + 1 < length line →
    MAX_LINE_LEN < length (cond b (take (length line - 1) line) line)
short_of = grind (arith, length-take-le)

not_within : (n : ℕ) → MAX_LINE_LEN < n → nat_le n MAX_LINE_LEN ≡ false
not_within = grind arith

pub longer-line : (line : List ℕ) → MAX_LINE_LEN + 1 < length line → has_legal_length line ≡ false
longer-line line h = not_within _ (omega arith)

pub longer-ended : (line : List ℕ) → MAX_LINE_LEN + 1 < length line → has_legal_length (strip_carriage_return line) ≡ false
longer-ended line h = not_within _ (short_of line _ h)

unread-none : (b : Bool) (bytes : List ℕ) → open_tail bytes ≡ [] → unread b bytes ≡ []
unread-none = grind arith

lone : (line : List ℕ) → (line ≡ [] → ⊥) → last_line line ≡ line ∷ []
lone [] some = absurd (some refl)
lone (byte ∷ line) some = grind arith

module _ {L : Type 0} (has_read : L → List (List ℕ) → Type 0) (at_end : L → Bool) where
  -- ---- what is unread

  pub fed-open : (reader : PieceReader L) (bytes : List ℕ) → IsFed has_read at_end reader bytes → at_end reader.lines ≡ false
      → Keeps reader.open_line (open_tail bytes)
  fed-open = grind arith

  -- ---- parts of a piece

  -- bytes of a line that does not end in them
  pub keep-fed : (old new : PieceReader L) (part : List ℕ) → at_end old.lines ≡ false → HasNoFeed part → new.lines ≡ old.lines
      → ((line : List ℕ) → Keeps old.open_line line → Keeps new.open_line (line ++ part)) → (bytes : List ℕ)
      → IsFed has_read at_end old bytes → IsFed has_read at_end new (bytes ++ part)
  keep-fed = grind (arith, complete-same, open_tail-on, fed-open)

  -- the line feed of the line that is kept
  pub end-fed : (old new : PieceReader L) (line : List ℕ) → at_end old.lines ≡ false
      → ((before : List (List ℕ)) → has_read old.lines before → has_read new.lines (before ++ line ∷ []))
      → ((l : List ℕ) → Keeps old.open_line l → line ≡ strip_carriage_return l)
      → Keeps new.open_line [] → (bytes : List ℕ) → IsFed has_read at_end old bytes → IsFed has_read at_end new (bytes ++ 10 ∷ [])
  end-fed = grind (arith, fed-open, complete-ended, unread-none, open_tail-ended)

  -- whole lines, if no line is kept
  from_start : (old : PieceReader L) (bytes : List ℕ) → at_end old.lines ≡ false → Keeps old.open_line [] →
      IsFed has_read at_end old bytes → open_tail bytes ≡ []
  from_start = grind arith

  pub lines-fed : (old new : PieceReader L) (part : List ℕ) → at_end old.lines ≡ false → Keeps old.open_line [] →
      Keeps new.open_line [] → open_tail part ≡ []
      → ((before : List (List ℕ)) → has_read old.lines before → has_read new.lines (before ++ lines part)) → (bytes : List ℕ)
      → IsFed has_read at_end old bytes → IsFed has_read at_end new (bytes ++ part)
  lines-fed = grind (arith, from_start, complete-from, unread-none, open_tail-from)

  -- ---- the end of the text

  pub whole-ended : (reader : PieceReader L) → at_end reader.lines ≡ false → Keeps reader.open_line [] → (bytes : List ℕ)
      → IsFed has_read at_end reader bytes → has_read reader.lines (lines bytes)
  whole-ended = grind (arith, lines-are, last_line, from_start, append-nil)

  whole_last : (reader : PieceReader L) (bytes line : List ℕ) → at_end reader.lines ≡ false → (Keeps reader.open_line [] → ⊥)
      → IsFed has_read at_end reader bytes
      → line ≡ open_tail bytes → complete_lines bytes ++ line ∷ [] ≡ lines bytes
  whole_last = grind (arith, fed-open, lone, lines-are)

  pub whole-line : (old new : PieceReader L) (line : List ℕ) → at_end old.lines ≡ false → (Keeps old.open_line [] → ⊥)
      → ((l : List ℕ) → Keeps old.open_line l → line ≡ l)
      → ((before : List (List ℕ)) → has_read old.lines before → has_read new.lines (before ++ line ∷ []))
      → (bytes : List ℕ) → IsFed has_read at_end old bytes → has_read new.lines (lines bytes)
  whole-line = grind (arith, whole_last, fed-open)

  -- ---- after the line that ends it

  module _ (after_end : (reader : L) (text more : List (List ℕ)) → has_read reader text → at_end reader ≡ true
      → has_read reader (text ++ more)) where
    -- after the line that ends the text
    pub after-fed : (reader : PieceReader L) (more bytes : List ℕ) → at_end reader.lines ≡ true →
        IsFed has_read at_end reader bytes → IsFed has_read at_end reader (bytes ++ more)
    after-fed = grind (arith, complete-more)

    pub whole-after : (reader : PieceReader L) → at_end reader.lines ≡ true → (bytes : List ℕ) →
        IsFed has_read at_end reader bytes → has_read reader.lines (lines bytes)
    whole-after = grind (arith, lines-are, last_line)

  -- ---- errors

  module _ (lines_fault : List (List ℕ) → Fault → Type 0) where
    pub refuses-end : (old : PieceReader L) (error : ReadFault) → WasFed has_read at_end old → at_end old.lines ≡ false
        → ((line : List ℕ) → Keeps old.open_line line →
        RefusesLines has_read lines_fault old.lines (strip_carriage_return line ∷ []) error) →
        RefusesPiece has_read at_end lines_fault old (10 ∷ []) error
    refuses-end = grind (arith, complete-ended, fed-open)

    pub refuses-lines : (old : PieceReader L) (part : List ℕ) (error : ReadFault) → at_end old.lines ≡ false →
        Keeps old.open_line [] → open_tail part ≡ []
        → RefusesLines has_read lines_fault old.lines (lines part) error → RefusesPiece has_read at_end lines_fault old part error
    refuses-lines = grind (arith, complete-from, from_start)

    -- consecutive parts
    pub refuses-after : (old mid : PieceReader L) (part rest piece : List ℕ) (error : ReadFault) → part ++ rest ≡ piece
        → ((bytes : List ℕ) → IsFed has_read at_end old bytes → IsFed has_read at_end mid (bytes ++ part))
        → RefusesPiece has_read at_end lines_fault mid rest error → RefusesPiece has_read at_end lines_fault old piece error
    refuses-after = grind (arith, append_assoc)

    pub then-feeds : (old mid new : PieceReader L) (part rest piece : List ℕ) (answer : Result (Unit {0}) ReadFault) →
        part ++ rest ≡ piece → ((bytes : List ℕ) → IsFed has_read at_end old bytes → IsFed has_read at_end mid (bytes ++ part))
        → Feeds has_read at_end lines_fault mid rest new answer → Feeds has_read at_end lines_fault old piece new answer
    then-feeds = grind (arith, append_assoc, refuses-after)

    -- a call that ends with this error
    pub ends-feed : (old new : PieceReader L) (piece : List ℕ) (error : ReadFault) (answer : Result (Unit {0}) ReadFault)
        → IsErrAnd answer (λ e. e ≡ error)
        → RefusesPiece has_read at_end lines_fault old piece error → Feeds has_read at_end lines_fault old piece new answer
    ends-feed = grind arith

    -- what a reader returns that has read the piece
    pub feed-refused : {R : Type 0} (after : R → List ℕ → Type 0) (refused : R → Bool) (old new : R) (reader : PieceReader L)
        (piece : List ℕ) (error : ReadFault)
        (answer : Result (Unit {0}) ReadFault) → IsErrAnd answer (λ e. e ≡ error)
        → ((bytes : List ℕ) → after old bytes → IsFed has_read at_end reader bytes)
        → RefusesPiece has_read at_end lines_fault reader piece error
        → IsFedBy after (λ bytes fault. lines_fault (complete_lines bytes) fault) refused old piece new answer
    feed-refused after refused old new reader piece error v7 is fed h = grind arith

    module _ (fault_stays : (text more : List (List ℕ)) (fault : Fault) → lines_fault text fault →
        lines_fault (text ++ more) fault) where
      pub refuses-more : (old : PieceReader L) (part rest piece : List ℕ) (error : ReadFault) → part ++ rest ≡ piece
          → RefusesPiece has_read at_end lines_fault old part error → RefusesPiece has_read at_end lines_fault old piece error
      refuses-more = grind (arith, complete-more, append_assoc)

    -- the last line
    module _ (first_fault : List ℕ → Fault → Type 0)
        (fault_is_first : (bytes : List ℕ) (fault : Fault) → lines_fault (lines bytes) fault → first_fault bytes fault) where
      pub refuses-text : (old : PieceReader L) (error : ReadFault) → WasFed has_read at_end old → at_end old.lines ≡ false
          → (Keeps old.open_line [] → ⊥)
          → ((line : List ℕ) → Keeps old.open_line line → RefusesLines has_read lines_fault old.lines (line ∷ []) error)
          → RefusesText has_read at_end first_fault old error
      refuses-text = grind (arith, whole_last, fed-open)

      pub line-ends : (old new : PieceReader L) (line : List ℕ) (answer : Result (Unit {0}) ReadFault) →
          WasFed has_read at_end old → at_end old.lines ≡ false
          → (Keeps old.open_line [] → ⊥) → ((l : List ℕ) → Keeps old.open_line l → line ≡ l)
          → ReadsOn has_read lines_fault old.lines (line ∷ []) new.lines answer →
          EndsText has_read at_end first_fault old new answer
      line-ends old new line (Ok x) was unended some line_is h = whole-line old new line unended some line_is h
      line-ends old new line _ was unended some line_is h = grind (arith, refuses-text)
