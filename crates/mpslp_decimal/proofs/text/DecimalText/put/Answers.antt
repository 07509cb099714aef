use Rattle.std.proofs.Common.{of_z, rules, sym, to_z, w64, ◌∙◌, ◌≡◌}
use Rattle.mpslp_decimal.proofs.NumberTextLemmas.{integer-text}
use Rattle.mpslp_decimal.proofs.text.DecimalText.put.Goals as goal

pub returns-in-Some : goal.returns-in-Some
returns-in-Some c =
    let number : to_z w64 (of_z w64 c.in-Some.number) ≡ c.in-Some.number = search rules in
    c.as_bytes.ensures.value ∙ c.format.ensures.text
    ∙ integer-text c.args.value (to_z w64 (of_z w64 c.in-Some.number)) (c.in-Some.ensures.0 ∙ sym number) c.in-Some.ensures.1
