use Rattle.std.proofs.Common.{of_z, rules, to_z, ◌≡◌}
use mir.Syntax.{w128}
use Rattle.mpslp_decimal.proofs.NumberTextLemmas.{digit-text}
use Rattle.mpslp_decimal.proofs.number.Decimal.digit.Goals as goal

pub returns-clause-text : goal.returns-clause-text
returns-clause-text c =
    let mantissa : to_z w128 (of_z w128 c.mantissa-mantissa.result) ≡ c.args.self.mantissa = search rules in
    digit-text c.args.self (to_z w128 (of_z w128 c.mantissa-mantissa.result)) mantissa (search rules) (search rules)
    (search rules)
