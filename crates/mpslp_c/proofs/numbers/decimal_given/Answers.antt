use Rattle.std.{proofs.Common.{◌≡◌, ◌∙◌, ap, sym, Err, rules, to_z, of_z}, specs.Int.{w32, w128}}
use Rattle.mpslp_decimal.specs.Literal.{number_of}
use Rattle.mpslp_c.{specs.Stored.literal_text, proofs.NumberLemmas.{literal-read, given-value, given-fault, wide-short, short-short}}
use Rattle.mpslp_c.proofs.numbers.decimal_given.Goals as goal

pub returns-in-Ok : goal.returns-in-Ok
returns-in-Ok c =
    let mantissa = c.args.mantissa in
    let exponent = c.args.exponent in
    let mantissa_passed : to_z w128 (of_z w128 mantissa)
    ≡ mantissa = search rules in
    let exponent_passed : to_z w32 (of_z w32 exponent) ≡ exponent = search rules in
    let literal : c.literal_of-literal.result.items ≡ literal_text mantissa exponent = c.literal_of-literal.ensures
    ∙ (λ i. literal_text (mantissa_passed i) (exponent_passed i)) in given-value mantissa exponent c.in-Ok.value
    (literal-read mantissa exponent (wide-short mantissa c.ranges.mantissa.sfits) (short-short exponent c.ranges.exponent.sfits))
    (ap number_of (sym literal) ∙ ap number_of (sym c.as_slice.ensures.value) ∙ sym c.parse.ensures ∙ c.in-Ok.is)

pub returns-in-Err : goal.returns-in-Err
returns-in-Err c =
    let mantissa = c.args.mantissa in
    let exponent = c.args.exponent in
    let mantissa_passed : to_z w128 (of_z w128 mantissa)
    ≡ mantissa = search rules in
    let exponent_passed : to_z w32 (of_z w32 exponent) ≡ exponent = search rules in
    let literal : c.literal_of-literal.result.items ≡ literal_text mantissa exponent = c.literal_of-literal.ensures
    ∙ (λ i. literal_text (mantissa_passed i) (exponent_passed i)) in
    given-fault mantissa exponent c.in-Err.fault
    (literal-read mantissa exponent (wide-short mantissa c.ranges.mantissa.sfits)
    (short-short exponent c.ranges.exponent.sfits))
    (ap number_of (sym literal) ∙ ap number_of (sym c.as_slice.ensures.value) ∙ sym c.parse.ensures
    ∙ c.in-Err.is) ∙ ap Err (sym c.kind_of_number_fault.ensures)
