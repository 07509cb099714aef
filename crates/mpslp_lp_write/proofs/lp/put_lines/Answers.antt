use Rattle.mpslp_lp_write.proofs.Prelude
use Prelude.{refl, [], ◌∷◌, codes, heading, section_then, section_text}
use Rattle.mpslp_lp_write.proofs.lp.put_lines.Goals as goal

pub returns : goal.returns
returns g c =
    section_then c.put_objective_section.ensures
    (section_then c.put_lp_rows_section.ensures
    (section_then c.put_lp_bounds_section.ensures
    (section_then c.put_generals_section.ensures
    (section_then c.put_semis_section.ensures (section_text {lines = heading (codes "End" ∷ []) ∷ []} refl c.put.ensures)))))
