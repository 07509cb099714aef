use Rattle.std.{proofs.Common.{ap, of_z, rules, to_z, w32, ◌∙◌, ◌≡◌}, specs.Prelude.{pos, ℤ, ◌-ℤ◌}}
use Rattle.mpslp_decimal.proofs.SumLemmas.{infinite-between, infinite-large, infinite-small, power-small}
use Rattle.mpslp_decimal.proofs.number.reaches_infinity.Goals as goal

pub returns-then-exponent-ge-INFINITE_EXPONENT : goal.returns-then-exponent-ge-INFINITE_EXPONENT
returns-then-exponent-ge-INFINITE_EXPONENT c = infinite-large c.args.units c.args.exponent (search rules)

pub returns-then-exponent : goal.returns-then-exponent
returns-then-exponent c = infinite-small c.args.units c.args.exponent c.requires.few (search rules)

pub power_of_ten-requires : goal.power_of_ten-requires
power_of_ten-requires c =
    let passed : to_z w32 (of_z w32 c.args.exponent) ≡ c.args.exponent = search rules in
    let places : to_z w32 (of_z w32 (pos 20 -ℤ to_z w32 (of_z w32 c.args.exponent))) ≡ pos 20 -ℤ to_z w32
    (of_z w32 c.args.exponent) =
    search rules in
    power-small _ c.args.exponent (places ∙ ap (λ (e : ℤ). pos 20 -ℤ e) passed) (search rules) (search rules)

pub returns : goal.returns
returns c =
    let passed : to_z w32 (of_z w32 c.args.exponent) ≡ c.args.exponent = search rules in
    let places : to_z w32 (of_z w32 (pos 20 -ℤ to_z w32 (of_z w32 c.args.exponent))) ≡ pos 20 -ℤ to_z w32
    (of_z w32 c.args.exponent) =
    search rules in
    infinite-between c.args.units c.args.exponent _ c.power_of_ten.result c.power_of_ten.ensures (places
    ∙ ap (λ (e : ℤ). pos 20 -ℤ e) passed) (search rules) (search rules)
