use Rattle.std.proofs.Common.{sym, ap, ◌∙◌, Bool, cond, []}
use Rattle.mpslp_model_core.specs.Model.{listing_of}
use Rattle.mpslp_mps_text.specs.CanonicalMps.{column_lines}
use Rattle.mpslp_io.{specs.LinesAt.{lines_at}, proofs.OutputLemmas.{prints_same, prints_nothing}}
use Rattle.mpslp_mps_write.proofs.ColumnLemmas.{part-lines}
use Rattle.mpslp_mps_write.proofs.mps.columns.put_column_of_part.Goals as goal

pub returns-then-is_wanted : goal.returns-then-is_wanted
returns-then-is_wanted g c =
    let m = listing_of c.args.model.now in
    let lines = lines_at (column_lines m) m.columns c.args.j in
    prints_same (sym (ap (λ (wanted : Bool). cond wanted lines []) (sym c.is_wanted.ensures ∙ c.if-is_wanted.true))
    ∙ part-lines c.args.part (column_lines m) m.columns c.args.j c.is_integer.result c.is_integer.ensures)
    c.put_column.ensures

pub returns-else-is_wanted : goal.returns-else-is_wanted
returns-else-is_wanted g c =
    let m = listing_of c.args.model.now in
    let lines = lines_at (column_lines m) m.columns c.args.j in
    prints_same (sym (ap (λ (wanted : Bool). cond wanted lines []) (sym c.is_wanted.ensures ∙ c.if-is_wanted.false))
    ∙ part-lines c.args.part (column_lines m) m.columns c.args.j c.is_integer.result c.is_integer.ensures)
    (prints_nothing c.args.output.now)
