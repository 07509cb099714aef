use Rattle.std.{proofs.Common.{ap, of_z, rules, subst, sym, to_z, w32, ℕ, ℤ, ◌∙◌, ◌≡◌}, specs.Int.{cast_signed, w128}}
use Rattle.mpslp_decimal.specs.Decimal.{IsDecimal}
use Rattle.mpslp_decimal.proofs.packed.PackedDecimal.of.Goals as goal

pub returns : goal.returns
returns c =
    let passed : to_z w128 (of_z w128 c.mantissa-mantissa.result) ≡ c.mantissa-mantissa.result = search rules in
    let exponent : to_z w32 (of_z w32 c.exponent-exponent.result) ≡ c.exponent-exponent.result = search rules in
    let bits = c.words_of-words.ensures ∙ c.cast_unsigned.ensures ∙ ap (λ (m : ℤ). of_z w128 m) passed in
    let mantissa = ap (λ (n : ℕ). cast_signed w128 n) bits ∙ passed ∙ c.mantissa-mantissa.ensures in
    λ i. record { mantissa = mantissa i; exponent = (exponent ∙ c.exponent-exponent.ensures) i }

pub invariant_of-result : goal.invariant_of-result
invariant_of-result c = subst IsDecimal (sym (returns c)) c.is_in_form.ensures
