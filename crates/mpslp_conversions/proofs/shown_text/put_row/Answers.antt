use Rattle.std.{proofs.Common.{◌∙◌, [], ◌∷◌}, specs.Prelude.{codes, decimal}}
use Rattle.mpslp_decimal.specs.NumberText.{number_text}
use Rattle.mpslp_io.proofs.OutputLemmas.{puts_then, puts_same}
use Rattle.mpslp_conversions.{specs.ShownText.{line_of, limit_text}, proofs.ShownLemmas.{row-seen}}
use Rattle.mpslp_conversions.proofs.shown_text.put_row.Goals as goal

pub returns : goal.returns
returns g c =
    let lower = c.row_lower-lower.result in
    let upper = c.row_upper-upper.result in
    let rhs = c.right_hand_side.result in
    let range = c.row_range.result in
    let name = c.as_bytes.ensures in
    let letter = c.as_slice.ensures in
    puts_same ((λ i. line_of (codes "row")
    (decimal c.args.i ∷ name i ∷ letter i ∷ limit_text lower ∷ limit_text upper ∷ codes "rhs" ∷ number_text rhs ∷ codes "range"
    ∷ number_text range ∷ []))
    ∙ row-seen c.args.model.now c.args.i _ _ lower upper rhs range c.row_name.ensures c.row_sense-letter.ensures
    c.row_lower-lower.ensures c.row_upper-upper.ensures
    c.right_hand_side.ensures c.row_range.ensures)
    (puts_then c.put.ensures
    (puts_then c.put_shown_count.ensures
    (puts_then c.put_shown_word.ensures
    (puts_then c.put_shown_word-2.ensures
    (puts_then c.put_shown_limit.ensures
    (puts_then c.put_shown_limit-2.ensures
    (puts_then c.put-2.ensures
    (puts_then c.put_shown_number.ensures
    (puts_then c.put-3.ensures (puts_then c.put_shown_number-2.ensures c.put-4.ensures))))))))))
