use Rattle.std.{proofs.Common.{ap, arith, of_z, rules, to_z, w32, ◌∙◌, ◌≡◌}, specs.{Prelude.{pos, ℤ, ◌+ℤ◌}, Result.result_ok}}
use Rattle.mpslp_decimal.{proofs.{NormalLemmas.decimal_at, SumLemmas.{decimal-few, decimal-many}}, specs.Scan.in_range}
use Rattle.mpslp_decimal.proofs.number.sums.decimal_of.Goals as goal

pub returns-then-digits-ge-MANTISSA_LIMIT : goal.returns-then-digits-ge-MANTISSA_LIMIT
returns-then-digits-ge-MANTISSA_LIMIT c =
    decimal-many c.args.is_negative c.args.size c.stripped-digits.result.0 c.stripped-digits.result.1 c.args.exponent
    c.stripped-digits.ensures.stripped c.requires.some (omega (arith, c.stripped-digits.ensures.zeros))
    c.if-digits-ge-MANTISSA_LIMIT.true

pub returns : goal.returns
returns c =
    let given : to_z w32 (of_z w32 c.args.exponent) ≡ c.args.exponent = search rules in
    let zeros : to_z w32 c.stripped-digits.result.1 ≡ pos c.stripped-digits.result.1 = search rules in
    let exponent : to_z w32 (of_z w32 (to_z w32 (of_z w32 c.args.exponent) +ℤ to_z w32 c.stripped-digits.result.1))
    ≡ to_z w32 (of_z w32 c.args.exponent) +ℤ to_z w32 c.stripped-digits.result.1 = search rules in
    c.ok.ensures.value
    ∙ ap result_ok (c.in_range.ensures
    ∙ ap (λ (e : ℤ). in_range (decimal_at c.args.is_negative c.stripped-digits.result.0 e))
    (exponent ∙ (λ i. given i +ℤ zeros i))) ∙ decimal-few c.args.is_negative c.args.size c.stripped-digits.result.0
    c.stripped-digits.result.1 c.args.exponent c.stripped-digits.ensures.stripped c.requires.some
    (omega (arith, c.stripped-digits.ensures.zeros)) c.if-digits-ge-MANTISSA_LIMIT.false
