use Rattle.std.proofs.Common.{◌≡◌, ◌∙◌, sym, subst, Result, Ok, Err, rules, to_z, of_z, pos}
use Rattle.std.specs.{Prelude.{MatchResult, if◌then◌else◌}, Int.{w32, w128}, Ordering.int_eq}
use Rattle.mpslp_decimal.specs.Decimal.{Number}
use Rattle.mpslp_types.specs.declared.faults.FaultKind.{FaultKind, TheVariants.BadNumber}
use Rattle.mpslp_c.specs.Stored.{decimal_given, given_number, number_given, IsFaultGiven}
use Rattle.mpslp_c.proofs.numbers.number_given.Goals as goal

pub returns : goal.returns
returns c =
    let number = c.args.number in
    let zero : number.infinity ≡ pos 0 = search rules in
    let mantissa_passed : to_z w128 (of_z w128 c.mantissa_of.result) ≡ c.mantissa_of.result = search rules in
    let exponent_passed : to_z w32 (of_z w32 number.exponent) ≡ number.exponent = search rules in
    let given : decimal_given
    (record { mantissa = to_z w128 (of_z w128 c.mantissa_of.result); exponent = to_z w32 (of_z w32 number.exponent) }) ≡
    number_given
    number = (λ i. decimal_given (record
    { mantissa = (mantissa_passed ∙ c.mantissa_of.ensures) i; exponent = exponent_passed i }))
    ∙ sym (λ i. if int_eq (zero i) (pos 0) then decimal_given (given_number number) else Err BadNumber) in
    subst (λ (g : Result Number FaultKind). MatchResult c.decimal_given.result (λ value. g ≡ Ok value) (IsFaultGiven g))
    given c.decimal_given.ensures
