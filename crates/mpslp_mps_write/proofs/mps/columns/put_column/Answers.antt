use Rattle.std.{proofs.Common.{◌∙◌, map}, specs.FinMap.{entries}}
use Rattle.mpslp_model_core.specs.{Views.{column_name}, Model.{listing_of}}
use Rattle.mpslp_mps_text.specs.CanonicalMps.{coefficient_line, printed_coefficients, column_coefficients}
use Rattle.mpslp_mps_write.proofs.ColumnLemmas.{column-joined}
use Rattle.mpslp_io.proofs.LinesAtLemmas.{named-lines}
use Rattle.mpslp_io.proofs.OutputLemmas.{prints_then, prints_same}
use Rattle.mpslp_mps_write.proofs.mps.columns.put_column.Goals as goal

pub returns : goal.returns
returns g c =
    let m = c.args.model.now in
    prints_same (column-joined m c.each_model_is_sound.ensures (column_name m c.args.j)
    ∙ named-lines (λ name. map (coefficient_line name)
    (printed_coefficients m.objective (column_coefficients (listing_of m) name))) (entries m.columns) c.args.j c.requires)
    (prints_then c.put_objective_coefficient.ensures c.put_elements.ensures)
