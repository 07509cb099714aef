use Rattle.mpslp_lp_write.proofs.Prelude
use Prelude.{refl, ◌∙◌, [], ◌∷◌, codes, filter, entries, name_line, is_semi_column, map-flat_map, flat_map-filter, prints_same}
use Prelude.{section_under}
use Rattle.mpslp_lp_write.proofs.LpLineTexts.{under-semi-heading}
use Rattle.mpslp_lp_write.proofs.lp.kinds.put_semis_section.Goals as goal

pub returns : goal.returns
returns g c =
    let columns = entries c.args.model.now.columns in
    section_under (codes "Semi-Continuous\n") (under-semi-heading _ _ refl) c.open_section.ensures
    (prints_same (flat_map-filter (λ column. name_line column ∷ []) is_semi_column columns
    ∙ map-flat_map name_line (filter is_semi_column columns)) c.put_names.ensures) c.close_section.ensures.closed
