use Rattle.std.{proofs.Common.{ap, ◌∙◌, [], ◌∷◌, ℕ, List}, specs.Prelude.{codes}}
use Rattle.mpslp_io.proofs.OutputLemmas.{puts_then, puts_same}
use Rattle.mpslp_conversions.specs.ShownText.{line_of, sense_word}
use Rattle.mpslp_conversions.proofs.shown_text.put_sense.Goals as goal

pub returns : goal.returns
returns g c =
    puts_same (ap (λ (word : List ℕ). line_of (codes "sense") (word ∷ [])) (c.sense_word.ensures ∙ ap sense_word c.objective_sense.ensures))
    (puts_then c.put.ensures (puts_then c.put_shown_word.ensures c.put-2.ensures))
