use Rattle.mpslp_lines.proofs.AnswerLemmas.{ends-by}
use Rattle.mpslp_mps.proofs.{Prelude.{sym, ◌∙◌}, SideLemmas.{first-refused, given-again, given-apart}}
use Rattle.mpslp_mps.proofs.vectors.check_rhs_pair.Goals as goal

pub returns-in_err-check_rhs_value : goal.returns-in_err-check_rhs_value
returns-in_err-check_rhs_value c =
    let error = c.in_err-check_rhs_value.field-0.0 in
    ends-by c.from_residual.result error _ _ c.from_residual.ensures.1 (first-refused c.args.builder.now c.args.first.now.0
    c.args.first.now.1 c.args.second.now.0 c.args.second.now.1 error c.requires.sides c.requires.rows c.in_err-check_rhs_value.ensures)

pub returns-then-is_second_rhs : goal.returns-then-is_second_rhs
returns-then-is_second_rhs c = given-again c.args.builder.now c.args.first.now.0 c.args.first.now.1
    c.args.second.now.0 c.args.second.now.1
    c.requires.sides c.requires.rows c.in_ok-check_rhs_value.ensures (sym c.is_second_rhs.ensures ∙ c.if-is_second_rhs.true)

pub returns : goal.returns
returns c = given-apart c.args.builder.now c.args.first.now.0 c.args.first.now.1 c.args.second.now.0
    c.args.second.now.1 c.check_rhs_value-2.result
    c.requires.sides c.in_ok-check_rhs_value.ensures (sym c.is_second_rhs.ensures ∙ c.if-is_second_rhs.false) c.check_rhs_value-2.ensures
