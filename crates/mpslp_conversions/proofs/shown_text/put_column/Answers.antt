use Rattle.std.{proofs.Common.{◌∙◌, [], ◌∷◌, ◌++◌}, specs.Prelude.{codes, decimal}}
use Rattle.mpslp_decimal.specs.NumberText.{number_text}
use Rattle.mpslp_model_core.specs.Views.{column_name}
use Rattle.mpslp_io.proofs.OutputLemmas.{puts_then, puts_same}
use Rattle.mpslp_conversions.{specs.ShownText.{line_of, limit_text, entries_text}, proofs.ShownLemmas.{column-seen}}
use Rattle.mpslp_conversions.proofs.shown_text.put_column.Goals as goal

pub returns : goal.returns
returns g c =
    let m = c.args.model.now in
    let j = c.args.j in
    let lower = c.col_lower-lower.result in
    let upper = c.col_upper-upper.result in
    let value = c.objective_coefficient.result in
    let name = c.as_bytes.ensures in
    let kind = c.kind_word.ensures in
    puts_same ((λ i. line_of (codes "column")
    (decimal j ∷ name i ∷ kind i ∷ limit_text lower ∷ limit_text upper ∷ codes "objective" ∷ number_text value ∷ [])
    ++ entries_text m j (column_name m j))
    ∙ column-seen m j _ _ lower upper value c.column_name.ensures c.column_kind.ensures c.col_lower-lower.ensures
    c.col_upper-upper.ensures c.objective_coefficient.ensures)
    (puts_then
    (puts_then c.put.ensures
    (puts_then c.put_shown_count.ensures
    (puts_then c.put_shown_word.ensures
    (puts_then c.put_shown_word-2.ensures
    (puts_then c.put_shown_limit.ensures
    (puts_then c.put_shown_limit-2.ensures
    (puts_then c.put-2.ensures (puts_then c.put_shown_number.ensures c.put-3.ensures)))))))) c.put_entries.ensures)
