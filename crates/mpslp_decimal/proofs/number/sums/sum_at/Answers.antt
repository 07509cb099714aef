use Rattle.std.{proofs.Common.{ap, arith, of_z, rules, subst, sym, to_z, w32, ◌*◌, ◌<◌, ◌^◌, ◌∙◌, ◌≡◌, ◌≤◌}, specs.Prelude.{Some, int_lt}}
use Rattle.std.specs.Prelude.{pos, unsigned_abs, ℤ, ◌*ℤ◌, ◌+ℤ◌}
use mir.Syntax.{w128}
use Rattle.mpslp_decimal.proofs.{NormalLemmas.decimal_at, SumLemmas.{beside-sum, exponent-small, signed-below, size-positive, sum-far}}
use Rattle.mpslp_decimal.{proofs.SumLemmas.{sum-none, sum-some, sum-zero_first, sum-zero_second}, specs.Decimal.{Number, decimal_of}}
use Rattle.mpslp_decimal.proofs.number.sums.sum_at.Goals as goal

pub returns-then-is_zero : goal.returns-then-is_zero
returns-then-is_zero c = sum-zero_first c.args.high c.args.low (search rules) (search rules)
    (sym c.is_zero.ensures ∙ c.if-is_zero.true)

pub returns-then-is_zero-2 : goal.returns-then-is_zero-2
returns-then-is_zero-2 c = sum-zero_second c.args.high c.args.low (search rules) (search rules) (sym c.is_zero-2.ensures
    ∙ c.if-is_zero-2.true)

pub returns-in_err-sum : goal.returns-in_err-sum
returns-in_err-sum c =
    let high : to_z w128 (of_z w128 c.mantissa.result) ≡ c.args.high.mantissa = search rules in
    let low : to_z w128 (of_z w128 c.mantissa-2.result) ≡ c.args.low.mantissa = search rules in
    c.from_residual.ensures
    ∙ sum-far c.args.high c.args.low c.abs_diff-places.result (search rules) (search rules) (search rules)
    (sym c.is_zero-2.ensures ∙ c.if-is_zero-2.false) (search rules)
    (subst (λ (s : ℤ). 2 * 10 ^ 36 ≤ unsigned_abs s) (λ i. high i *ℤ pos (10 ^ c.abs_diff-places.result) +ℤ low i)
    c.in_err-sum.ensures)

pub returns-then-sum-eq0 : goal.returns-then-sum-eq0
returns-then-sum-eq0 c =
    let none : c.in_ok-sum.sum ≡ pos 0 = search rules in
    let high : to_z w128 (of_z w128 c.mantissa.result) ≡ c.args.high.mantissa = search rules in
    let low : to_z w128 (of_z w128 c.mantissa-2.result) ≡ c.args.low.mantissa = search rules in
    ap (λ (d : Number). Some d) c.zero.ensures
    ∙ sum-none c.args.high c.args.low (search rules) (search rules) (search rules)
    (beside-sum c.args.high c.args.low c.abs_diff-places.result c.in_ok-sum.sum (to_z w128 (of_z w128 c.mantissa.result))
    (to_z w128 (of_z w128 c.mantissa-2.result)) (search rules) (search rules)
    high low c.in_ok-sum.ensures ∙ none)

pub decimal_of-requires-clause-some : goal.decimal_of-requires-clause-some
decimal_of-requires-clause-some c =
    let held : to_z w128 (of_z w128 c.in_ok-sum.sum) ≡ c.in_ok-sum.sum = search rules in
    rw (c.unsigned_abs.ensures.value, held) (size-positive c.in_ok-sum.sum (λ e. c.if-sum-eq0.false (ap (of_z w128) e)))

pub decimal_of-requires-clause-exponent : goal.decimal_of-requires-clause-exponent
decimal_of-requires-clause-exponent c =
    let held : to_z w32 (of_z w32 c.exponent-3.result) ≡ c.exponent-3.result = search rules in
    rw (held, c.exponent-3.ensures) (exponent-small c.args.low (search rules))

pub returns : goal.returns
returns c =
    let held : to_z w128 (of_z w128 c.in_ok-sum.sum) ≡ c.in_ok-sum.sum = search rules in
    let high : to_z w128 (of_z w128 c.mantissa.result) ≡ c.args.high.mantissa = search rules in
    let low : to_z w128 (of_z w128 c.mantissa-2.result) ≡ c.args.low.mantissa = search rules in
    let exponent : to_z w32 (of_z w32 c.exponent-3.result) ≡ c.args.low.exponent = search rules in
    let size : c.unsigned_abs.result ≡ unsigned_abs c.in_ok-sum.sum = c.unsigned_abs.ensures.value ∙ ap unsigned_abs held in
    c.decimal_of.ensures
    ∙ (λ i. decimal_of (decimal_at (int_lt (held i) (pos 0)) (size i) (exponent i)))
    ∙ sum-some c.args.high c.args.low (int_lt c.in_ok-sum.sum (pos 0)) (unsigned_abs c.in_ok-sum.sum) (search rules)
    (search rules) (search rules)
    (beside-sum c.args.high c.args.low c.abs_diff-places.result c.in_ok-sum.sum (to_z w128 (of_z w128 c.mantissa.result))
    (to_z w128 (of_z w128 c.mantissa-2.result)) (search rules) (search rules)
    high low c.in_ok-sum.ensures ∙ signed-below c.in_ok-sum.sum)
    (size-positive c.in_ok-sum.sum (λ e. c.if-sum-eq0.false (ap (of_z w128) e)))
    (let bound : c.unsigned_abs.result < 10 ^ 39 = omega (arith, c.unsigned_abs.ensures.bound) in omega (arith, bound, size))
