use Rattle.std.{proofs.Common.{sym, ap, ◌∙◌, ℕ}, specs.{Prelude.if◌then◌else◌, Ordering.is_eq, declared.cmp.Ordering.Ordering}}
use Rattle.mpslp_decimal.proofs.OrderOfValues.{order-decimal}
use Rattle.mpslp_model_core.specs.Views.{letter_E, letter_R}
use Rattle.mpslp_model_core.proofs.model_row.letter_between.Goals as goal

letter : Ordering → ℕ
letter r = if is_eq r then letter_E else letter_R

pub returns-in-Less : goal.returns-in-Less
unfolding letter
returns-in-Less c = ap letter (sym c.in-Less.is ∙ c.cmp.ensures
    ∙ order-decimal c.args.lower.now c.args.upper.now c.each_value_is_a_decimal.ensures c.each_value_is_a_decimal-2.ensures)

pub returns-in-Equal : goal.returns-in-Equal
unfolding letter
returns-in-Equal c = ap letter (sym c.in-Equal.is ∙ c.cmp.ensures
    ∙ order-decimal c.args.lower.now c.args.upper.now c.each_value_is_a_decimal.ensures c.each_value_is_a_decimal-2.ensures)

pub returns-in-Greater : goal.returns-in-Greater
unfolding letter
returns-in-Greater c = ap letter (sym c.in-Greater.is ∙ c.cmp.ensures
    ∙ order-decimal c.args.lower.now c.args.upper.now c.each_value_is_a_decimal.ensures c.each_value_is_a_decimal-2.ensures)
