use Rattle.std.{proofs.Common.{refl}, specs.Prelude.{codes}}
use Rattle.mpslp_mps_fields.specs.declared.sections.Section.TheVariants.{Ranges}
use Rattle.mpslp_mps_write.proofs.IntegerPart.{under-text}
use Rattle.mpslp_io.proofs.OutputLemmas.{section_under}
use Rattle.mpslp_mps_write.proofs.mps.rows.put_ranges_section.Goals as goal

pub returns : goal.returns
returns g c =
    section_under (codes "RANGES\n") (under-text Ranges _ _ refl) c.open_section.ensures c.put_ranges.ensures c.close_section.ensures.closed
