-- Lines read one after another from a context and a draft, instead of all the lines before them.
use Rattle.std.specs.Prelude.{ℕ, ◌+◌, List, [], ◌∷◌, Option, None}
use Rattle.std.specs.Option.{option_map, option_or}
use Rattle.mpslp_builder.specs.Declaration.{Draft, with_declarations}
use Rattle.mpslp_types.specs.declared.faults.Fault.{Fault}
use Rattle.mpslp_mps_fields.specs.Line.{content_of}
use Rattle.mpslp_mps.specs.Context.{Context}
use Rattle.mpslp_mps.specs.NextContext.{next_context}
use Rattle.mpslp_mps.specs.MpsText.{LineInContext, declared_at}
use Rattle.mpslp_mps.specs.FirstFault.{line_fault}
use Rattle.mpslp_lines.specs.FaultTests.{fault_on_line}

abbrev pub placed_in : Context → Draft → List ℕ → LineInContext
placed_in context earlier line = record { context = context; earlier = earlier; line = line }

-- the draft after a line
abbrev pub draft_after : Context → Draft → List ℕ → Draft
draft_after context earlier line = with_declarations earlier (declared_at (placed_in context earlier line))

abbrev pub context_after : Context → List ℕ → Context
context_after context line = next_context context (content_of line)

-- the error of the first line that has one, if the first of these lines is line n
abbrev pub fault_from : ℕ → Context → Draft → List (List ℕ) → Option Fault
fault_from n context earlier [] = None
fault_from n context earlier (line ∷ more) =
    option_or (option_map (fault_on_line n) (line_fault (placed_in context earlier line)))
    (fault_from (n + 1) (context_after context line) (draft_after context earlier line) more)

-- the draft after all lines
abbrev pub draft_from : Context → Draft → List (List ℕ) → Draft
draft_from context earlier [] = earlier
draft_from context earlier (line ∷ more) = draft_from (context_after context line) (draft_after context earlier line) more

-- the context after all lines
abbrev pub context_from : Context → List (List ℕ) → Context
context_from context [] = context
context_from context (line ∷ more) = context_from (context_after context line) more
