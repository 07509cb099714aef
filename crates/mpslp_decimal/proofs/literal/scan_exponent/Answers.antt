use Rattle.std.proofs.Common.{sym, ◌∙◌}
use Rattle.mpslp_decimal.proofs.GrammarLemmas.{all-more, capped-digit}
use Rattle.mpslp_decimal.proofs.literal.scan_exponent.Goals as goal

pub loop-digit-preserved : goal.loop-digit-preserved
loop-digit-preserved c = record {
  size = capped-digit c.split_sign-is_negative.result.1.now c.loop-digit.digit-index _ _ _ 100000 c.loop-digit-test.true
      c.loop-digit.invariant.size c.from.ensures c.min-size.ensures;
  digits = all-more c.split_sign-is_negative.result.1.now c.loop-digit.digit-index c.loop-digit-test.true
      c.loop-digit.invariant.digits (sym c.is_ascii_digit.ensures.value ∙ c.if-not-is_ascii_digit.false);
}
