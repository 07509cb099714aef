-- The text that a writer has put so far: a sink accepted a prefix of it, and the rest waits in a buffer.
use Rattle.std.specs.Prelude.{◌≡◌, ℕ, ◌+◌, ◌-◌, ◌^◌, ◌<◌, ◌≤◌, min, Bool, true, false, List, [], ◌∷◌, ◌++◌, length, map, refl, Result, Ok, Err, if◌then◌else◌}
use Rattle.std.specs.Coded.{Coded, code_by, coded×, coded_list, coded_ℕ, coded_bool}
use Rattle.mpslp_io.specs.Devices.{Grows, TookFirst}
use Rattle.mpslp_types.specs.Lists.{with_line_feeds}
use Rattle.mpslp_types.specs.declared.faults.WriteFault.{WriteFault}
use Rattle.mpslp_types.specs.declared.faults.WriteFault.TheVariants.{Write}

-- The bytes that wait; how many bytes the sink accepted, at most 2^64 - 1; whether the sink failed; and the header that
-- waits for the first line of its section, [] if none waits.
pub record BufferState : Type 0 where
  pub waiting : List ℕ
  pub taken : ℕ
  pub has_failed : Bool
  pub header : List ℕ

abbrev pub buffer_code : Coded BufferState
buffer_code =
    code_by (List ℕ × (ℕ × (Bool × List ℕ))) (coded× (coded_list coded_ℕ) (coded× coded_ℕ (coded× coded_bool (coded_list coded_ℕ))))
    (λ b. (b.waiting, (b.taken, (b.has_failed, b.header)))) (λ p. record { waiting = p.0; taken = p.1.0; has_failed = p.1.1.0; header = p.1.1.1 }) (λ _. refl)

abbrev pub buffer_state : List ℕ → List ℕ → ℕ → Bool → BufferState
buffer_state header waiting taken has_failed = record { waiting = waiting; taken = taken; has_failed = has_failed; header = header }

abbrev pub empty_buffer : BufferState
empty_buffer = buffer_state [] [] 0 false

abbrev pub with_waiting : List ℕ → BufferState → BufferState
with_waiting bytes buffer = buffer_state buffer.header bytes buffer.taken buffer.has_failed

abbrev pub with_header : List ℕ → BufferState → BufferState
with_header header buffer = buffer_state header buffer.waiting buffer.taken buffer.has_failed

-- From the state `first` on, the sink accepted the text except for the bytes that wait, and this header waits for a line.
pub record IsUnderWay {S : Type 0} (holds : S → List ℕ → Type 0) (failed : S → Bool) (count : S → ℕ) (first now : S) (buffer : BufferState) (text header : List ℕ)
    : Type 0 where
  pub header_is : buffer.header ≡ header
  pub sent : List ℕ
  pub parts : text ≡ sent ++ buffer.waiting
  pub sent_is : Grows holds first now sent
  pub taken_is : buffer.taken ≡ min (length sent) (2 ^ 64 - 1)
  pub calls : count now ≤ count first + length sent
  pub stays : failed first ≡ true → failed now ≡ true
  pub works : 0 < length sent → failed now ≡ false

-- The sink accepted a prefix of the text, and then failed.
pub record IsCutOff {S : Type 0} (holds : S → List ℕ → Type 0) (failed : S → Bool) (count : S → ℕ) (first now : S) (buffer : BufferState) (text : List ℕ)
    : Type 0 where
  pub fails : failed now ≡ true
  pub took : TookFirst holds first now text buffer.taken
  pub calls : count now ≤ count first + length text

-- The text was put since the sink was `first`, and this header waits for a line. After a failure nothing is stated of a
-- header.
pub record HasPut {S : Type 0} (holds : S → List ℕ → Type 0) (failed : S → Bool) (count : S → ℕ) (first now : S) (buffer : BufferState) (text header : List ℕ)
    : Type 0 where
  pub under_way : buffer.has_failed ≡ false → IsUnderWay holds failed count first now buffer text header
  pub cut_off : buffer.has_failed ≡ true → IsCutOff holds failed count first now buffer text

-- Whatever was put is still put: waiting bytes were sent to the sink.
abbrev pub KeepsPut : {S : Type 0} → (S → List ℕ → Type 0) → (S → Bool) → (S → ℕ) → S → S → BufferState → BufferState → Type 0
KeepsPut {S} holds failed count old new before after =
    (first : S) (text header : List ℕ) → HasPut holds failed count first old before text header → HasPut holds failed count first new after text header

-- The piece was appended to whatever was put.
pub record Emits {S : Type 0} (holds : S → List ℕ → Type 0) (failed : S → Bool) (count : S → ℕ) (old new : S) (before after : BufferState) (piece : List ℕ)
    : Type 0 where
  pub puts : (first : S) (text header : List ℕ) → HasPut holds failed count first old before text header → HasPut holds failed count first new after (text ++ piece) header

-- The header that waited was appended to whatever was put, and none waits any more.
pub record PutsHeader {S : Type 0} (holds : S → List ℕ → Type 0) (failed : S → Bool) (count : S → ℕ) (old new : S) (before after : BufferState) : Type 0 where
  pub puts : (first : S) (text header : List ℕ) → HasPut holds failed count first old before text header → HasPut holds failed count first new after (text ++ header) []

-- ---- lines of any kind, by how one is printed

-- their text, with a line feed after each line
abbrev pub text_by : {L : Type 0} → (L → List ℕ) → List L → List ℕ
text_by line_text lines = with_line_feeds (map line_text lines)

-- the text of lines and of the header that waits, which is put before the first of them
abbrev pub text_under : {L : Type 0} → (L → List ℕ) → List ℕ → List L → List ℕ
text_under line_text header [] = []
text_under line_text header (line ∷ lines) = header ++ text_by line_text (line ∷ lines)

-- the header that waits after them: the same one if there are no lines
abbrev pub header_left : {L : Type 0} → List ℕ → List L → List ℕ
header_left header [] = header
header_left header (line ∷ lines) = []

-- the result for a sink that accepted all that it was sent, or failed
abbrev pub answer_of : BufferState → Result (Unit {0}) WriteFault
answer_of buffer = if buffer.has_failed then Err (Write buffer.taken) else Ok tt
