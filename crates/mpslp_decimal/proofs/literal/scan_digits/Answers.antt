use Rattle.std.proofs.Common.{arith, subst, sym, take, ℕ, ◌*◌, ◌+◌, ◌^◌, ◌∙◌}
use Rattle.mpslp_decimal.{proofs.GrammarLemmas.{count-more, value-more}, specs.{Literal.digits_sum, Scan.IsSignificandOf}}
use Rattle.mpslp_decimal.proofs.literal.scan_digits.Goals as goal

pub loop-at-preserved : goal.loop-at-preserved
loop-at-preserved c = record {
  count = count-more c.args.text.now c.loop-at.at c.loop-at-test.true (sym c.is_ascii_digit.ensures.value
      ∙ c.if-not-is_ascii_digit.false) c.loop-at.invariant.count;
  value = λ n is.
      subst (λ (m : ℕ). IsSignificandOf c.followed_by-significand.result m)
      (value-more c.args.text.now c.loop-at.at n c.loop-at-test.true)
      (c.followed_by-significand.ensures.value (n * 10 ^ c.loop-at.at + digits_sum (take c.loop-at.at c.args.text.now))
      (c.loop-at.invariant.value n is));
  zeros = omega arith;
}
