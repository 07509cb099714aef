-- What the code returns for the content of a line.
use Rattle.std.specs.Prelude.{◌≡◌, Bool, true, false, Option, Some, None, Result, Ok, Err, MatchResult}
use Rattle.mpslp_builder.specs.Declaration.{Draft, with_declarations}
use Rattle.mpslp_types.specs.declared.faults.FaultKind.{FaultKind}
use Rattle.mpslp_lines.specs.Declaring.{first_fault}
use Rattle.mpslp_lines.specs.LineAnswer.{IsErrorOf, LineResult}
use Rattle.mpslp_lines.specs.declared.errors.LineError.{LineError}
use Rattle.mpslp_lines.specs.declared.errors.LineError.TheVariants.{OutOfMemory}
use Rattle.mpslp_mps_fields.specs.Line.{LineContent}
use Rattle.mpslp_mps.specs.Context.{Context}
use Rattle.mpslp_mps.specs.NextContext.{next_context}
use Rattle.mpslp_mps.specs.LineDeclarations.{line_declares}
use Rattle.mpslp_mps.specs.LineFault.{item_tests}

-- The first error is returned, if there is one.
abbrev pub ReturnsFault : Option FaultKind → LineResult → Type 0
ReturnsFault first_fault answer = MatchResult answer (λ _. first_fault ≡ None) (IsErrorOf first_fault)

-- A value of which this holds is returned if there is no error, otherwise the first error.
abbrev pub ReturnsUnless : {X : Type 0} → Option FaultKind → Result X FaultKind → (X → Type 0) → Type 0
ReturnsUnless first_fault answer Claim = MatchResult answer (λ value. (first_fault ≡ None) × Claim value) (λ kind. first_fault ≡ Some kind)

-- the error of a line of legal bytes with this content
abbrev pub item_fault : Context → Draft → LineContent → Option FaultKind
item_fault context earlier item = first_fault (item_tests context earlier item) earlier (line_declares context earlier item)

-- A line without an error is read, and then context and draft are those after it.
abbrev pub ReadsContent : Context → Draft → LineContent → LineResult → Context → Draft → Type 0
ReadsContent context earlier item answer next later =
    MatchResult answer (λ _. (item_fault context earlier item ≡ None) × (next ≡ next_context context item) × (later ≡ with_declarations earlier (line_declares context earlier item)))
    (IsErrorOf (item_fault context earlier item))

-- A line without an error is read; or nothing is done; or an allocation failed.
abbrev pub MayRead : Context → Draft → LineContent → Result Bool LineError → Context → Draft → Type 0
MayRead context earlier item (Ok true) next later = ReadsContent context earlier item (Ok tt) next later
MayRead context earlier item (Ok false) next later = (next ≡ context) × (later ≡ earlier)
MayRead context earlier item (Err error) next later = error ≡ OutOfMemory
