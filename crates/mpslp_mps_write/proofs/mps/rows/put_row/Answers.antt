use Rattle.std.proofs.Common.{ap, ◌∙◌, ℕ, [], ◌∷◌}
use Rattle.mpslp_mps_text.specs.CanonicalMps.{short_line}
use Rattle.mpslp_mps_write.proofs.RowLines.{row-put}
use Rattle.mpslp_io.proofs.OutputLemmas.{prints_same}
use Rattle.mpslp_mps_write.proofs.mps.rows.put_row.Goals as goal

pub returns : goal.returns
returns g c =
    let letter = c.as_slice.ensures ∙ ap (λ (letter : ℕ). letter ∷ []) c.printed_letter-letter.ensures in
    prints_same ((λ i. short_line (letter i ∷ c.row_name_bytes.result.now ∷ []) ∷ [])
    ∙ row-put c.args.model.now c.each_model_is_sound.ensures c.args.i _ _ c.row_name_bytes.ensures c.row_sense.ensures)
    c.put_short_line.ensures
