-- What the code returns for a line of bytes, and for all lines.
use Rattle.std.specs.Prelude.{◌≡◌, ℕ, suc, List, take, None, Result, MatchResult}
use Rattle.std.specs.List.{position_or_len}
use Rattle.mpslp_model_core.specs.Model.{LinearModel}
use Rattle.mpslp_builder.specs.Declaration.{Draft}
use Rattle.mpslp_types.specs.declared.faults.ReadFault.{ReadFault}
use Rattle.mpslp_model.specs.Formats.{IsAnswerTo}
use Rattle.mpslp_mps.specs.Context.{Context}
use Rattle.mpslp_mps.specs.MpsText.{is_end, DeclaresMps}
use Rattle.mpslp_mps.specs.FirstFault.{line_fault, IsFirstMpsFault}
use Rattle.mpslp_mps.specs.LineByLine.{placed_in, draft_after, context_after}
use Rattle.mpslp_lines.specs.LineAnswer.{LineResult, IsErrorOf}

-- A line without an error is read, and then context and draft are those after it.
abbrev pub ReadsLine : Context → Draft → List ℕ → LineResult → Context → Draft → Type 0
ReadsLine context earlier line answer next later =
    let first_fault = line_fault (placed_in context earlier line) in
    MatchResult answer (λ _. (first_fault ≡ None) × (next ≡ context_after context line) × (later ≡ draft_after context earlier line)) (IsErrorOf first_fault)

-- the lines up to that of ENDATA, or all lines
abbrev pub lines_to_end : List (List ℕ) → List (List ℕ)
lines_to_end text = take (suc (position_or_len is_end text)) text

-- The model that the bytes declare, or their first error; or an allocation failed.
abbrev pub ReadsMps : List ℕ → Result LinearModel ReadFault → Type 0
ReadsMps bytes answer = IsAnswerTo DeclaresMps IsFirstMpsFault bytes answer
