use Rattle.std.{proofs.Common.{◌∙◌, [], ◌∷◌}, specs.Prelude.{codes}}
use Rattle.mpslp_decimal.specs.NumberText.{number_text}
use Rattle.mpslp_io.proofs.OutputLemmas.{puts_then, puts_same}
use Rattle.mpslp_conversions.specs.ShownText.{line_of}
use Rattle.mpslp_conversions.proofs.shown_text.put_objective.Goals as goal

pub returns : goal.returns
returns g c =
    let name = c.as_bytes.ensures ∙ c.objective_name.ensures in
    let constant = c.objective_constant.ensures in
    let offset = c.objective_offset.ensures in
    puts_same (λ i. line_of (codes "objective")
    (name i ∷ codes "constant" ∷ number_text (constant i) ∷ codes "offset" ∷ number_text (offset i) ∷ []))
    (puts_then c.put.ensures
    (puts_then c.put_shown_word.ensures
    (puts_then c.put-2.ensures
    (puts_then c.put_shown_number.ensures (puts_then c.put-3.ensures (puts_then c.put_shown_number-2.ensures c.put-4.ensures))))))
