use Rattle.std.proofs.Common.{[], drop, length, rules, take, ◌-◌, ◌≡◌}
use Rattle.mpslp_decimal.{proofs.GrammarLemmas.{all-digits, fraction-cut, only-digits, zeros-after, zeros-front}, specs.Scan.fraction_front}
use Rattle.mpslp_decimal.specs.Scan.{zeros_of}
use Rattle.mpslp_decimal.proofs.literal.scan_long_mantissa.Goals as goal

pub returns-in-46-clause-significand : goal.returns-in-46-clause-significand
returns-in-46-clause-significand c =
    let after_whole = c.scan_digits-whole.result.1.now in
    all-digits c.args.text.now (take (length after_whole - 1) (drop 1 after_whole)) c.scan_digits-whole.result.0
    c.scan_digits-significand.result.0
    c.scan_digits-whole.ensures.value c.scan_digits-significand.ensures.value
    (fraction-cut c.args.text.now after_whole c.scan_digits-whole.ensures.rest c.in-46.len_at_least (search rules))

pub returns-in_default-clause-significand : goal.returns-in_default-clause-significand
returns-in_default-clause-significand c =
    let none : fraction_front c.args.text.now ≡ [] = search rules in
    only-digits c.args.text.now c.scan_digits-whole.result.0 none c.scan_digits-whole.ensures.value

pub returns-in-46-clause-zeros_within : goal.returns-in-46-clause-zeros_within
returns-in-46-clause-zeros_within c =
    zeros-after c.args.text.now c.scan_digits-whole.result.1.now (zeros_of c.scan_digits-whole.result.0)
    (zeros_of c.scan_digits-significand.result.0)
    c.scan_digits-whole.ensures.rest c.in-46.len_at_least c.scan_digits-whole.ensures.zeros
    c.scan_digits-significand.ensures.zeros

pub returns-in_default-clause-zeros_within : goal.returns-in_default-clause-zeros_within
returns-in_default-clause-zeros_within c =
    zeros-front c.args.text.now (zeros_of c.scan_digits-whole.result.0) c.scan_digits-whole.ensures.zeros
