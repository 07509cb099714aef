use Rattle.std.proofs.Common.{refl, ap, [], ◌∷◌}
use Rattle.mpslp_mps_fields.specs.declared.sections.Section.TheVariants.{Name, EndData}
use Rattle.mpslp_mps_text.specs.CanonicalMps.{header_line, sense_lines}
use Rattle.mpslp_io.proofs.OutputLemmas.{section_then, section_same, section_text}
use Rattle.mpslp_mps_write.proofs.mps.put_lines.Goals as goal

pub returns : goal.returns
returns g c =
    section_then (section_text {lines = header_line Name ∷ []} refl c.put.ensures)
    (section_then (section_same (ap sense_lines c.objective_sense.ensures) c.put_sense.ensures)
    (section_then c.put_mps_rows_section.ensures
    (section_then c.put_columns_section.ensures
    (section_then c.put_rhs_section.ensures
    (section_then c.put_ranges_section.ensures
    (section_then c.put_mps_bounds_section.ensures (section_text {lines = header_line EndData ∷ []} refl c.put-2.ensures)))))))
