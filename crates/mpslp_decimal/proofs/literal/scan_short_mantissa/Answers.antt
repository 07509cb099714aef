use Rattle.std.proofs.Common.{[], drop, length, rules, take, ◌-◌, ◌≡◌}
use Rattle.mpslp_decimal.{proofs.GrammarLemmas.{all-number, fraction-cut, only-number}, specs.Scan.fraction_front}
use Rattle.mpslp_decimal.proofs.literal.scan_short_mantissa.Goals as goal

pub returns-in_ok-number-in-46-clause-number : goal.returns-in_ok-number-in-46-clause-number
returns-in_ok-number-in-46-clause-number c =
    let text = c.args.text.now in
    let after_whole = c.in_ok-whole.after_whole.now in
    all-number text (take (length after_whole - 1) (drop 1 after_whole)) c.in_ok-whole.whole c.in_ok-number-in-46.number
    c.in_ok-whole.ensures.number c.in_ok-number-in-46.ensures.number
    (fraction-cut text after_whole c.in_ok-whole.ensures.rest c.in-46.len_at_least (search rules))

pub returns-in_default-clause-number : goal.returns-in_default-clause-number
returns-in_default-clause-number c =
    let none : fraction_front c.args.text.now ≡ [] = search rules in
    only-number c.args.text.now c.in_ok-whole.whole c.in_ok-whole.ensures.number none
