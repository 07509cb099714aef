use Rattle.mpslp_lp_write.proofs.Prelude
use Prelude.{refl, [], ◌∷◌, codes, heading, section_of, section_then, section_text}
use Rattle.mpslp_lp_write.proofs.lp.rows.put_lp_rows_section.Goals as goal

pub returns : goal.returns
returns g c = section_then (section_text {lines = heading (codes "Subject" ∷ codes "To" ∷ []) ∷ []} refl c.put.ensures)
    (section_of c.put_rows.ensures)
