use Rattle.std.proofs.Common.{rules, ◌∙◌}
use Rattle.mpslp_decimal.proofs.LaneLemmas.{four-number}
use Rattle.mpslp_decimal.proofs.literal.four_digits.Goals as goal

pub returns : goal.returns
returns c =
    let all = c.are_four_digits.ensures c.if-not-are_four_digits.false in
    (all, c.from.ensures ∙ (four-number c.args.bytes _ (search rules) all c.from_le_bytes-digits.ensures).value)
