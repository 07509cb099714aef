use Rattle.std.specs.FinMap.{entries}
use Rattle.mpslp_model_core.specs.Model.{Row}
use Rattle.mpslp_mps_text.specs.PrintedValues.{printed_rhs}
use Rattle.mpslp_mps_text.specs.CanonicalMps.{rhs_lines}
use Rattle.mpslp_io.proofs.{LinesAtLemmas.{lines_seen}, OutputLemmas.{prints_same}}
use Rattle.mpslp_mps_write.proofs.mps.rows.put_row_rhs.Goals as goal

pub returns : goal.returns
returns g c =
    prints_same (lines_seen (entries c.args.model.now.rows) c.args.i (λ (row : Row). printed_rhs row.lower row.upper)
    rhs_lines _ _ c.row_name_bytes.ensures c.rhs_at-side.ensures)
    c.put_rhs_line.ensures
