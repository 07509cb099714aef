use Rattle.std.{proofs.Common.{ap, of_z, rules, subst, to_z, ◌*◌, ◌^◌, ◌∙◌, ◌≡◌, ◌≤◌}, specs.{Ordering.int_cmp, Prelude.pos}}
use Rattle.std.specs.Prelude.{unsigned_abs, ℤ}
use mir.Syntax.{w128}
use Rattle.mpslp_decimal.proofs.OrderOfValues.{compare-far}
use Rattle.mpslp_decimal.proofs.number.order.compare_shifted.Goals as goal

pub returns-in-None : goal.returns-in-None
returns-in-None c =
    let passed : to_z w128 (of_z w128 c.args.mantissa) ≡ c.args.mantissa = search rules in
    let far : 10 ^ 37 ≤ unsigned_abs c.args.mantissa * 10 ^ c.args.places =
    subst (λ (m : ℤ). 10 ^ 37 ≤ unsigned_abs m * 10 ^ c.args.places) passed c.in-None.ensures in
    c.cmp-in-None.ensures ∙ ap (λ (m : ℤ). int_cmp m (pos 0)) passed
    ∙ compare-far c.args.mantissa c.args.other c.args.places far c.requires
