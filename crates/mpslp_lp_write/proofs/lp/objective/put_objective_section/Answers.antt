use Rattle.mpslp_lp_write.proofs.Prelude
use Prelude.{◌∙◌, ◌++◌, ◌∷◌, entries, listing_of, label_line, constant_lines, objective_term, sense_lines, section_of, section_then}
use Prelude.{section_same}
use Rattle.mpslp_lp_write.proofs.LpTerms.{terms-joined}
use Rattle.mpslp_lp_write.proofs.lp.objective.put_objective_section.Goals as goal

pub returns : goal.returns
returns g c =
    let m = c.args.model.now in
    let name = c.as_bytes.ensures ∙ c.objective_name.ensures in
    let terms = terms-joined (objective_term (listing_of m)) (entries m.columns) in
    section_same (λ i. sense_lines
    (c.objective_sense.ensures i) ++ (label_line (name i) ∷ (terms i ++ constant_lines (c.objective_constant.ensures i))))
    (section_then c.put_sense.ensures
    (section_then (section_of c.put_label_line.ensures)
    (section_then (section_of c.put_objective_terms.ensures) (section_of c.put_constant.ensures))))
