-- What MPS text declares.
use Rattle.std.specs.Prelude.{ℕ, suc, Bool, ◌&&◌, not, IsTrue, List, [], ◌∷◌, ◌++◌, take}
use Rattle.mpslp_types.specs.Basics.{list_all, list_any, flat_map, position_or_len, lines, is_nonempty, those_of}
use Rattle.mpslp_builder.specs.Meaning.{Means, LinearModel, Declarations, Draft, empty_draft, with_declarations}
use Rattle.mpslp_mps_fields.specs.Line.{LineContent, content_of, begins}
use Rattle.mpslp_mps.specs.Context.{Context, context_of}
use Rattle.mpslp_mps.specs.LineDeclarations.{line_declares}
use Rattle.mpslp_mps.specs.LineFault.{line_tests, FaultTests}
use Rattle.mpslp_mps_fields.specs.declared.sections.Section.TheVariants.{EndData}

-- ---- the lines that are read

abbrev pub is_end : List ℕ → Bool
is_end line = begins EndData (content_of line)

-- the lines up to that of ENDATA; a line ends with LF or CRLF
abbrev pub read_lines : List ℕ → List (List ℕ)
read_lines bytes = take (suc (position_or_len is_end (lines bytes))) (lines bytes)

abbrev pub has_end : List ℕ → Bool
has_end bytes = list_any is_end (lines bytes)

-- ---- each line after those before it

-- a line, with its context and what the lines before it declare
pub record LineInContext : Type 0 where
  pub context : Context
  pub earlier : Draft
  pub line : List ℕ

abbrev pub declared_at : LineInContext → Declarations
declared_at placed = line_declares placed.context placed.earlier (content_of placed.line)

-- the tests of its form
abbrev pub tests_at : LineInContext → FaultTests
tests_at placed = line_tests placed.context placed.earlier placed.line

abbrev pub is_well_formed : LineInContext → Bool
is_well_formed placed = not (is_nonempty (those_of (tests_at placed)))

-- lines after these, which declared `earlier`
abbrev pub lines_in_context_after : List LineContent → Draft → List (List ℕ) → List LineInContext
lines_in_context_after before earlier [] = []
lines_in_context_after before earlier (line ∷ more) =
    let here : LineInContext = record { context = context_of before; earlier = earlier; line = line } in
    here ∷ lines_in_context_after (before ++ content_of line ∷ []) (with_declarations earlier (declared_at here)) more

abbrev pub lines_in_context : List ℕ → List LineInContext
lines_in_context bytes = lines_in_context_after [] empty_draft (read_lines bytes)

-- ---- the text

abbrev pub declarations_of : List ℕ → Declarations
declarations_of bytes = flat_map declared_at (lines_in_context bytes)

-- there is an ENDATA, and each line is well-formed after the lines before it
abbrev pub is_mps_text : List ℕ → Bool
is_mps_text bytes = has_end bytes && list_all is_well_formed (lines_in_context bytes)

-- The bytes declare the model in MPS.
pub record DeclaresMps (bytes : List ℕ) (m : LinearModel) : Type 0 where
  pub text : IsTrue (is_mps_text bytes)
  pub means : Means (declarations_of bytes) m
