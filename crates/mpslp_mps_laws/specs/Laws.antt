-- Laws of canonical texts.
use Rattle.std.specs.Prelude.{◌≡◌, ◌↔◌, IsTrue, map}
use Rattle.std.specs.List.{list_all}
use Rattle.mpslp_model_core.specs.Model.{LinearModel, IsSound}
use Rattle.mpslp_mps_fields.specs.Line.{content_of}
use Rattle.mpslp_mps.specs.LegalLine.{is_legal_line}
use Rattle.mpslp_mps.specs.MpsText.{read_lines, has_end, DeclaresMps}
use Rattle.mpslp_mps_text.specs.CanonicalMps.{line_text, canonical_lines, canonical_mps}
use Rattle.mpslp_mps_laws.specs.PrintedDeclarations.{content_in}

-- The canonical text of a model consists of the lines that were printed, within the limits of lines; each is read as the
-- fields from which it was printed; and the last is ENDATA.
pub record IsReadAsPrinted (m : LinearModel) : Type 0 where
  pub lines : read_lines (canonical_mps m) ≡ map line_text (canonical_lines m)
  pub legal : IsTrue (list_all is_legal_line (map line_text (canonical_lines m)))
  pub items : map content_of (map line_text (canonical_lines m)) ≡ map content_in (canonical_lines m)
  pub end : IsTrue (has_end (canonical_mps m))

abbrev pub AreReadAsPrinted : Type 0
AreReadAsPrinted = (m : LinearModel) → IsSound m → IsReadAsPrinted m

-- The canonical text of a well-formed model declares it.
abbrev pub DeclareTheirModels : Type 0
DeclareTheirModels = (m : LinearModel) → IsSound m → DeclaresMps (canonical_mps m) m

-- Well-formed models have the same canonical text if and only if they are equal.
abbrev pub DistinguishModels : Type 0
DistinguishModels = (m n : LinearModel) → IsSound m → IsSound n → (canonical_mps m ≡ canonical_mps n) ↔ (m ≡ n)
