use Rattle.std.{proofs.Common.{Option, ap, of_z, rules, subst, sym, to_z, ◌*◌, ◌^◌, ◌∙◌, ◌≡◌, ◌≤◌}, specs.Prelude.{MatchOption, pos}}
use Rattle.std.specs.Prelude.{unsigned_abs, ℤ, ◌*ℤ◌, ◌+ℤ◌}
use mir.Syntax.{w128}
use Rattle.mpslp_decimal.proofs.SumLemmas.{far-sum, sum-held}
use Rattle.mpslp_decimal.proofs.number.sums.shifted_sum.Goals as goal

pub returns : goal.returns
returns c =
    let mantissa : to_z w128 (of_z w128 c.args.mantissa) ≡ c.args.mantissa = search rules in
    let other : to_z w128 (of_z w128 c.args.other) ≡ c.args.other = search rules in
    let held : to_z w128 (of_z w128 c.in_ok-shifted.field-0) ≡ c.in_ok-shifted.field-0 = search rules in
    sum-held c.checked_add.result (to_z w128 (of_z w128 c.in_ok-shifted.field-0) +ℤ to_z w128 (of_z w128 c.args.other))
    (c.args.mantissa *ℤ pos (10 ^ c.args.places) +ℤ c.args.other)
    c.checked_add.ensures
    (λ i. (held ∙ c.in_ok-shifted.ensures ∙ ap (λ (z : ℤ). z *ℤ pos (10 ^ c.args.places)) mantissa) i +ℤ other i)

pub returns-in_err-shifted : goal.returns-in_err-shifted
returns-in_err-shifted c =
    let mantissa : to_z w128 (of_z w128 c.args.mantissa) ≡ c.args.mantissa = search rules in
    let far : 10 ^ 37 ≤ unsigned_abs c.args.mantissa * 10 ^ c.args.places =
    subst (λ (m : ℤ). 10 ^ 37 ≤ unsigned_abs m * 10 ^ c.args.places) mantissa c.in_err-shifted.ensures in
    subst (λ (r : Option ℤ). MatchOption r
    (2 * 10 ^ 36 ≤ unsigned_abs (c.args.mantissa *ℤ pos (10 ^ c.args.places) +ℤ c.args.other))
    (λ s. s ≡ c.args.mantissa *ℤ pos (10 ^ c.args.places) +ℤ c.args.other)) (sym c.from_residual.ensures)
    (far-sum c.args.mantissa c.args.other (10 ^ c.args.places) far c.requires)
