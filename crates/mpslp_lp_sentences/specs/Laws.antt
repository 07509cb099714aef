-- Laws of LP text as a whole.
use Rattle.std.specs.Prelude.{◌≡◌, ℕ, IsTrue, List}
use Rattle.mpslp_builder.specs.Declaration.{Declarations}
use Rattle.mpslp_lp.specs.LpText.{is_lp_text, declarations_of}
use Rattle.mpslp_lp_sentences.specs.Sentence.{IsSentence}

-- Bytes that are a sentence are LP text, and declare what the sentence does.
abbrev pub SentencesAreRead : Type 0
SentencesAreRead = (bytes : List ℕ) (declared : Declarations) → IsSentence bytes declared → IsTrue (is_lp_text bytes) × (declarations_of bytes ≡ declared)

-- LP text is a sentence with the declarations that it makes.
abbrev pub ReadTextsAreSentences : Type 0
ReadTextsAreSentences = (bytes : List ℕ) → IsTrue (is_lp_text bytes) → IsSentence bytes (declarations_of bytes)
