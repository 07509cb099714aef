use Rattle.std.proofs.Common.{arith, rules, sym, ◌∙◌}
use Rattle.mpslp_decimal.proofs.GrammarLemmas.{literal-no_digits, literal-no_exponent, scanned}
use Rattle.mpslp_decimal.proofs.literal.Scan.of.Goals as goal

pub returns-then-mantissa-eq0 : goal.returns-then-mantissa-eq0
returns-then-mantissa-eq0 c =
    literal-no_digits c.args.text.now c.split_sign-is_negative.result.1.now c.scan_long_mantissa.result.0.digits
    c.split_sign-is_negative.ensures.rest c.scan_long_mantissa.ensures.digits c.if-mantissa-eq0.true

pub returns-in_err-exponent : goal.returns-in_err-exponent
returns-in_err-exponent c =
    rw c.from_residual.ensures
    (literal-no_exponent c.args.text.now c.split_sign-is_negative.result.1.now c.scan_long_mantissa.result.1.now
    c.split_sign-is_negative.ensures.rest c.scan_long_mantissa.ensures.rest (sym c.scan_exponent_part.ensures
    ∙ c.in_err-exponent.was))

pub returns : goal.returns
returns c =
    scanned _ c.args.text.now c.split_sign-is_negative.result.1.now c.scan_long_mantissa.result.1.now c.in_ok-exponent.exponent
    c.scan_long_mantissa.result.0.digits
    c.split_sign-is_negative.ensures.rest c.scan_long_mantissa.ensures.rest (sym c.scan_exponent_part.ensures
    ∙ c.in_ok-exponent.was) c.scan_long_mantissa.ensures.significand c.scan_long_mantissa.ensures.digits
    (omega arith) c.scan_long_mantissa.ensures.places (search rules) c.split_sign-is_negative.ensures.minus
    c.scan_long_mantissa.ensures.digits_within c.scan_long_mantissa.ensures.zeros_within
    c.scan_long_mantissa.ensures.places_within
