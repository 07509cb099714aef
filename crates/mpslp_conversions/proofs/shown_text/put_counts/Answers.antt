use Rattle.std.{proofs.Common.{[], ◌∷◌}, specs.Prelude.{codes, decimal}}
use Rattle.mpslp_io.proofs.OutputLemmas.{puts_then, puts_same}
use Rattle.mpslp_conversions.specs.ShownText.{line_of}
use Rattle.mpslp_conversions.proofs.shown_text.put_counts.Goals as goal

pub returns : goal.returns
returns g c =
    let rows = c.num_rows.ensures in
    let columns = c.num_cols.ensures in
    let elements = c.num_elements.ensures in
    puts_same (λ i. line_of (codes "rows")
    (decimal (rows i) ∷ codes "columns" ∷ decimal (columns i) ∷ codes "elements" ∷ decimal (elements i) ∷ []))
    (puts_then c.put.ensures
    (puts_then c.put_shown_count.ensures
    (puts_then c.put-2.ensures
    (puts_then c.put_shown_count-2.ensures (puts_then c.put-3.ensures (puts_then c.put_shown_count-3.ensures c.put-4.ensures))))))
