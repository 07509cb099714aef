use Rattle.std.proofs.Common.{◌∙◌}
use Rattle.mpslp_decimal.proofs.SumLemmas.{sum-other}
use Rattle.mpslp_decimal.proofs.number.Decimal.checked_add.Goals as goal

pub returns-else-exponent : goal.returns-else-exponent
returns-else-exponent c = c.sum_at-else-exponent.ensures ∙ sum-other c.args.self c.args.other
