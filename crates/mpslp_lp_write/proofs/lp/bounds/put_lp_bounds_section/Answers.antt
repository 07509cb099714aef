use Rattle.mpslp_lp_write.proofs.Prelude
use Prelude.{refl, codes, section_under}
use Rattle.mpslp_lp_write.proofs.LpLineTexts.{under-heading}
use Rattle.mpslp_lp_write.proofs.lp.bounds.put_lp_bounds_section.Goals as goal

pub returns : goal.returns
returns g c = section_under (codes "Bounds\n") (under-heading (codes "Bounds") _ _ refl) c.open_section.ensures
    c.put_all_bounds.ensures c.close_section.ensures.closed
