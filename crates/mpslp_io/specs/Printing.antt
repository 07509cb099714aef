-- What was put to an output, a sink with the buffer before it.
use Rattle.std.specs.Prelude.{◌≡◌, ℕ, List, [], ◌++◌}
use Rattle.mpslp_io.specs.declared.devices.Sink.{Ghosts as SinkOf}
use Rattle.mpslp_io.specs.TextBuffer.{HasPut, with_header, text_by, text_under, header_left}
use Rattle.mpslp_io.specs.declared.output.Output.{Output}

-- They have the same sink and the same buffer, whatever the two contain.
pub record IsSameOutput {W : Type 0} (old new : Output W) : Type 0 where
  pub sink : new.sink.ghost_name ≡ old.sink.ghost_name
  pub buffer : new.buffer.ghost_name ≡ old.buffer.ghost_name

-- The text was put since the sink was `first`, and this header waits for a line.
abbrev pub Holds : {W : Type 0} → SinkOf W → W → Output W → List ℕ → List ℕ → Type 0
Holds k first output text header = HasPut k.holds k.failed k.count first output.sink.now output.buffer.now text header

-- The piece was appended to whatever was put.
pub record Puts {W : Type 0} (k : SinkOf W) (old new : Output W) (piece : List ℕ) : Type 0 where
  pub same : IsSameOutput old new
  pub puts : (first : W) (text header : List ℕ) → Holds k first old text header → Holds k first new (text ++ piece) header

-- The header that waited was appended to whatever was put, and none waits any more.
pub record PutsWaiting {W : Type 0} (k : SinkOf W) (old new : Output W) : Type 0 where
  pub same : IsSameOutput old new
  pub puts : (first : W) (text header : List ℕ) → Holds k first old text header → Holds k first new (text ++ header) []

-- This header waits from now on.
pub record HasHeader {W : Type 0} (header : List ℕ) (old new : Output W) : Type 0 where
  pub same : IsSameOutput old new
  pub sink_is : new.sink.now ≡ old.sink.now
  pub buffer_is : new.buffer.now ≡ with_header header old.buffer.now

-- The lines were appended to whatever was put, after the header that waited.
pub record Prints {W L : Type 0} (line_text : L → List ℕ) (k : SinkOf W) (old new : Output W) (lines : List L) : Type 0 where
  pub same : IsSameOutput old new
  pub puts : (first : W) (text header : List ℕ) → Holds k first old text header
      → Holds k first new (text ++ text_under line_text header lines) (header_left header lines)

-- If no header waited, the lines were appended to whatever was put, including their headers, and no header waits.
pub record PrintsSection {W L : Type 0} (line_text : L → List ℕ) (k : SinkOf W) (old new : Output W) (lines : List L) : Type 0 where
  pub same : IsSameOutput old new
  pub puts : (first : W) (text : List ℕ) → Holds k first old text [] → Holds k first new (text ++ text_by line_text lines) []
