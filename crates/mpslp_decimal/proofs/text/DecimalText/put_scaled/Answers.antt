use Rattle.std.{proofs.Common.{of_z, rules, to_z, w32, ◌∙◌, ◌≡◌}, specs.{Fmt.decimal, Prelude.unsigned_abs}}
use Rattle.mpslp_decimal.proofs.NumberTextLemmas.{printed-pieces}
use Rattle.mpslp_decimal.proofs.text.DecimalText.put_scaled.Goals as goal

pub returns : goal.returns
returns c =
    let digits : c.mantissa_digits-digits.result.now ≡ decimal (unsigned_abs c.args.value.mantissa) = search rules in
    c.as_slice.ensures.value ∙ c.self.view_is
    ∙ printed-pieces c.args.value c.clear.new.self c.append_sign.new.self c.append_scaled.new.self
    c.mantissa_digits-digits.result.now (to_z w32 (of_z w32 c.exponent.result)) (search rules) c.clear.ensures
    c.append_sign.ensures c.append_scaled.ensures digits (search rules)
