use Rattle.std.{proofs.Common.{◌∙◌, refl, [], ◌∷◌}, specs.FinMap.{entries}}
use Rattle.mpslp_mps_fields.specs.declared.sections.Section.TheVariants.{Rows}
use Rattle.mpslp_mps_text.specs.CanonicalMps.{header_line, objective_line, row_line}
use Rattle.mpslp_io.proofs.{LinesAtLemmas.{map-flat_map}, OutputLemmas.{section_of, section_then, section_same, section_text}}
use Rattle.mpslp_mps_write.proofs.mps.rows.put_mps_rows_section.Goals as goal

pub returns : goal.returns
returns g c =
    let name = c.as_bytes.ensures ∙ c.objective_name.ensures in
    section_same ((λ i. header_line Rows ∷ objective_line (name i) ∷ map-flat_map row_line (entries c.args.model.now.rows) i))
    (section_then (section_text {lines = header_line Rows ∷ []} refl c.put.ensures)
    (section_then (section_of c.put_short_line.ensures) (section_of c.put_rows.ensures)))
