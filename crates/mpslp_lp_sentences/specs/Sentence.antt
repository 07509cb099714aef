-- Which bytes are LP text, and what they declare, said of the text as a whole.
use Rattle.std.specs.Prelude.{◌≡◌, ℕ, IsTrue, List, [], take, is_none}
use Rattle.std.specs.List.{flat_map, list_all}
use Rattle.std.specs.Str.Lines.{lines}
use Rattle.mpslp_builder.specs.Declaration.{empty_draft, Declarations}
use Rattle.mpslp_builder.specs.Refusal.{refusals_in_turn}
use Rattle.mpslp_lp_grammar.specs.TerminalToken.{terminals}
use Rattle.mpslp_lp_grammar.specs.Terminal.{lexical_fault}
use Rattle.mpslp_lp_sentences.specs.Phrases.{File}
use Rattle.mpslp_lp_sentences.specs.Spelling.{file_tokens, is_file}
use Rattle.mpslp_lp_sentences.specs.Meaning.{file_declares}

-- "The file": the tokens of the first lines are those of a file, up to its `end`, which is last on its line; later lines are
-- ignored. No line of these has an error by itself. Nothing is rejected after what was declared before: "The objective", at
-- most one constant; "Rows", no name of an earlier row or of the objective; "Columns", at most one term of a column in a row
-- or in the objective; "Duplicates", each bound once.
pub record IsSentence (bytes : List ℕ) (declared : Declarations) : Type 0 where
  pub whole : File
  pub right : IsTrue (is_file whole)
  pub count : ℕ
  pub sound : IsTrue (list_all (λ line. is_none (lexical_fault line)) (take count (lines bytes)))
  pub tokens : flat_map terminals (take count (lines bytes)) ≡ file_tokens whole
  pub declares : file_declares whole ≡ declared
  pub unrefused : refusals_in_turn empty_draft declared ≡ []
