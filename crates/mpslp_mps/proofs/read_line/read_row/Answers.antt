use Rattle.mpslp_lines.proofs.AnswerLemmas.{ends-by}
use Rattle.mpslp_mps.proofs.Prelude.{map, row_shape, Rows}
use Rattle.mpslp_mps.proofs.LineFaults.{data-judged, row-early}
use Rattle.mpslp_mps.proofs.OrderLemmas.{rows-apart}
use Rattle.mpslp_mps.proofs.read_line.read_row.Goals as goal

pub returns-in_err-row_type-clause-answers : goal.returns-in_err-row_type-clause-answers
returns-in_err-row_type-clause-answers c =
    let fields = map (λ field. field.now) c.args.fields.now in
    ends-by c.from_residual.result c.in_err-row_type.field-0.0 _ _ c.from_residual.ensures.1
    (data-judged c.args.context.now c.args.builder.now fields Rows c.in_err-row_type.field-0.0 c.requires.section
    (row-early (row_shape fields)) (rows-apart c.args.context.now c.args.builder.now fields) c.in_err-row_type.ensures)
