use Rattle.mpslp_io.proofs.OutputLemmas.{puts_then}
use Rattle.mpslp_conversions.proofs.shown_text.put_shown.Goals as goal

pub returns : goal.returns
returns g c =
    puts_then c.put_sense.ensures
    (puts_then c.put_objective.ensures (puts_then c.put_counts.ensures (puts_then c.put_rows.ensures c.put_columns.ensures)))
