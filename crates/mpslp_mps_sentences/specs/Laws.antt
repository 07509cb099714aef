-- The law that both definitions of MPS text accept the same bytes.
use Rattle.std.specs.Prelude.{◌≡◌, ℕ, List}
use Rattle.mpslp_mps.specs.MpsText.{is_mps_text}
use Rattle.mpslp_mps_sentences.specs.TextInWords.{is_text_in_words}

-- Bytes are MPS text if and only if they are MPS text in the sense of `TextInWords`.
abbrev pub TextIsInWords : Type 0
TextIsInWords = (bytes : List ℕ) → is_mps_text bytes ≡ is_text_in_words bytes
