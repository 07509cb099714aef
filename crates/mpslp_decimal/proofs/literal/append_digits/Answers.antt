use Rattle.std.proofs.{Common.{◌*◌, ◌+◌, ◌∙◌}, lemmas.Bool.lt-ltb}
use Rattle.mpslp_decimal.proofs.GrammarLemmas.{count-more, value-more}
use Rattle.mpslp_decimal.proofs.literal.append_digits.Goals as goal

pub loop-at-preserved : goal.loop-at-preserved
loop-at-preserved c =
    let digit = c.digit_value-digit.ensures.digit ∙ lt-ltb _ _ c.if-digit-ge10.false in
    record {
      count = count-more c.args.text.now c.loop-at.at c.loop-at-test.true digit c.loop-at.invariant.count;
      value = (λ i. c.loop-at.invariant.value i * 10 + c.digit_value-digit.ensures.value digit i)
          ∙ value-more c.args.text.now c.loop-at.at c.args.before c.loop-at-test.true;
    }
