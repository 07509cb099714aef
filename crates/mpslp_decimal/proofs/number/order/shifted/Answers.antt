use Rattle.std.proofs.{Common.{ap, arith, lit<, of_z, rules, to_z, ℕ, ◌^◌, ◌∙◌, ◌≡◌, ◌≤◌}, Math.Nat.pow-le-pow_right}
use Rattle.std.{proofs.lemmas.Int.fits_signed_from_abs, specs.Prelude.{FitsSigned, pos, ◌*ℤ◌}}
use mir.Syntax.{w128}
use Rattle.mpslp_decimal.proofs.{OrderOfValues.far-above, SumLemmas.product-held}
use Rattle.mpslp_decimal.proofs.number.order.shifted.Goals as goal

pub returns-then-places-gt-MAX_DIGITS : goal.returns-then-places-gt-MAX_DIGITS
returns-then-places-gt-MAX_DIGITS c = far-above c.args.mantissa c.args.places (λ e. c.if-mantissa-eq0.false (ap (of_z w128) e))
    c.if-places-gt-MAX_DIGITS.true

power_fits : (places : ℕ) → places ≤ 36 → FitsSigned w128 (pos (10 ^ places))
power_fits places few =
    let p : 10 ^ places ≤ 10 ^ 36 = pow-le-pow_right (lit< tt) few in
    fits_signed_from_abs w128 (pos (10 ^ places)) (omega (arith, p))

pub pow-requires : goal.pow-requires
pow-requires c = power_fits c.args.places c.if-places-gt-MAX_DIGITS.false

pub returns : goal.returns
returns c =
    let mantissa : to_z w128 (of_z w128 c.args.mantissa) ≡ c.args.mantissa = search rules in
    let power : to_z w128 (of_z w128 c.pow.result) ≡ c.pow.result = search rules in
    product-held c.checked_mul.result (to_z w128 (of_z w128 c.args.mantissa) *ℤ to_z w128 (of_z w128 c.pow.result))
    c.args.mantissa (10 ^ c.args.places) c.checked_mul.ensures (λ i. mantissa i *ℤ (power ∙ c.pow.ensures) i)
