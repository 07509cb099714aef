-- What is known of a text that is read in pieces, and what a reader keeps of it.
use Rattle.std.specs.Prelude.{◌≡◌, ℕ, ◌+◌, ◌-◌, ◌^◌, min, Bool, false, List, [], length, Option, None, Some}
use Rattle.std.specs.List.{list_any}
use Rattle.mpslp_builder.specs.Declaration.{Draft, empty_draft}
use Rattle.mpslp_types.specs.declared.faults.Fault.{Fault}
use Rattle.mpslp_mps_fields.specs.Line.{is_section}
use Rattle.mpslp_mps.specs.Context.{Context, context_of}
use Rattle.mpslp_mps.specs.NextContext.{kept_context}
use Rattle.mpslp_mps.specs.MpsText.{is_end, lines_in_context_after}
use Rattle.mpslp_mps.specs.FirstFault.{first_line_fault}
use Rattle.mpslp_mps.specs.LineByLine.{draft_from, context_from}
use Rattle.mpslp_mps.specs.ReadAnswer.{lines_to_end}
use Rattle.mpslp_mps.specs.declared.line_reader.LineReader.{LineReader}
use Rattle.mpslp_mps_fields.specs.declared.sections.Section.TheVariants.{EndData}

-- ---- complete lines

-- the error of the first of these lines that has one, up to that of ENDATA
abbrev pub lines_fault : List (List ℕ) → Option Fault
lines_fault text = first_line_fault 1 (lines_in_context_after [] empty_draft (lines_to_end text))

-- This is the error of the first of these lines that has one.
abbrev pub IsFaultOfLines : List (List ℕ) → Fault → Type 0
IsFaultOfLines text fault = lines_fault text ≡ Some fault

-- The lines from the first on, up to that of ENDATA, were read, and none has an error. They led to this draft, to this
-- context (without its names after ENDATA), and to the number of the next line.
pub record LedTo (text : List (List ℕ)) (context : Context) (earlier : Draft) (number : ℕ) : Type 0 where
  pub clean : lines_fault text ≡ None
  pub context_is : context ≡ kept_context (context_from (context_of []) (lines_to_end text))
  pub draft : earlier ≡ draft_from (context_of []) empty_draft (lines_to_end text)
  pub ended : is_section EndData context.section ≡ list_any is_end text
  pub counted : list_any is_end text ≡ false → number ≡ min (1 + length text) (2 ^ 64 - 1)

abbrev pub HasRead : LineReader → List (List ℕ) → Type 0
HasRead reader text = LedTo text reader.context reader.builder.draft reader.number

-- the line of ENDATA was read
abbrev pub is_ended : LineReader → Bool
is_ended reader = is_section EndData reader.context.section
