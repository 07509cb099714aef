use Rattle.std.{proofs.Common.{ap, ◌∙◌}, specs.Ordering.is_eq}
use Rattle.mpslp_decimal.proofs.OrderOfValues.{order-decimal}
use Rattle.mpslp_decimal.proofs.number.Decimal.has_same_value.Goals as goal

pub returns : goal.returns
returns c = c.is_eq.ensures ∙ ap is_eq (c.cmp.ensures ∙ order-decimal c.args.self c.args.other c.is_in_form.ensures
    c.is_in_form-2.ensures)
