use Rattle.std.{proofs.Common.{◌∙◌, refl}, specs.Prelude.{codes}}
use Rattle.mpslp_mps_fields.specs.declared.sections.Section.TheVariants.{Rhs}
use Rattle.mpslp_mps_text.specs.CanonicalMps.{rhs_lines}
use Rattle.mpslp_mps_write.proofs.IntegerPart.{under-text}
use Rattle.mpslp_io.proofs.OutputLemmas.{prints_then, prints_same, section_under}
use Rattle.mpslp_mps_write.proofs.mps.rows.put_rhs_section.Goals as goal

pub returns : goal.returns
returns g c =
    let objective = c.as_bytes-objective.ensures ∙ c.objective_name.ensures in
    section_under (codes "RHS\n") (under-text Rhs _ _ refl) c.open_section.ensures
    (prints_then (prints_same (λ i. rhs_lines (objective i) (c.objective_offset.ensures i)) c.put_rhs_line.ensures)
    c.put_all_rhs.ensures) c.close_section.ensures.closed
