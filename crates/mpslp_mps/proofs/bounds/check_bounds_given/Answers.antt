use Rattle.mpslp_lines.proofs.AnswerLemmas.{ends-by}
use Rattle.mpslp_mps.proofs.{Prelude.{sym, ◌∙◌, error_of_build}, SideLemmas.{sides-error, sides-none}}
use Rattle.mpslp_mps.proofs.bounds.check_bounds_given.Goals as goal

pub returns-in_err-check_bounds : goal.returns-in_err-check_bounds
returns-in_err-check_bounds c =
    let fault = c.in_err-check_bounds.field-0.0 in
    ends-by c.from_residual.result (error_of_build fault) _ _ c.from_residual.ensures.1 (sides-error c.args.builder.now c.args.column.now
    c.args.lower.now c.args.upper.now fault c.requires (sym c.in_err-check_bounds.was ∙ c.check_bounds.ensures))

pub returns : goal.returns
returns c = sides-none c.args.builder.now c.args.column.now c.args.lower.now c.args.upper.now c.requires
    (sym c.in_ok-check_bounds.was ∙ c.check_bounds.ensures)
