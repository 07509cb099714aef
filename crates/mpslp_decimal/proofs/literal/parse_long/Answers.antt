use Rattle.std.{proofs.Common.{ap, of_z, rules, sym, to_z, w32, ◌∙◌, ◌≡◌}, specs.Prelude.{Ok, pos, ℤ, ◌+ℤ◌, ◌-ℤ◌}}
use Rattle.mpslp_decimal.proofs.SpellsLemmas.{number-few, number-many, number-zero, parts-none, scan-ends, scan-few, scan-zeros}
use Rattle.mpslp_decimal.proofs.literal.parse_long.Goals as goal

pub returns-in_default-parts : goal.returns-in_default-parts
returns-in_default-parts c =
    number-many c.in-Some.scan c.args.text.now c.in-Some.ensures
    (parts-none c.in-Some.scan.significand (sym c.parts.ensures ∙ c.in_default-parts.is)) c.if-text-gt-MAX_LITERAL_LEN.false

pub returns-then-mantissa-eq0 : goal.returns-then-mantissa-eq0
returns-then-mantissa-eq0 c =
    ap Ok c.zero.ensures
    ∙ number-zero c.in-Some.scan c.args.text.now c.in-Some-parts.mantissa c.in-Some-parts.zeros c.in-Some.ensures
    (sym c.parts.ensures ∙ c.in-Some-parts.is)
    c.if-mantissa-eq0.true c.if-text-gt-MAX_LITERAL_LEN.false

pub normal_exponent-exponent-requires-clause-zeros : goal.normal_exponent-exponent-requires-clause-zeros
normal_exponent-exponent-requires-clause-zeros c =
    scan-zeros c.in-Some.scan c.args.text.now c.in-Some-parts.mantissa c.in-Some-parts.zeros c.in-Some.ensures
    (sym c.parts.ensures ∙ c.in-Some-parts.is) c.if-text-gt-MAX_LITERAL_LEN.false

pub in_range-requires-clause-ends : goal.in_range-requires-clause-ends
in_range-requires-clause-ends c =
    scan-ends c.in-Some.scan c.args.text.now c.in-Some-parts.mantissa c.in-Some-parts.zeros c.in-Some.ensures (sym c.parts.ensures
    ∙ c.in-Some-parts.is) c.if-mantissa-eq0.false

pub in_range-requires-clause-few : goal.in_range-requires-clause-few
in_range-requires-clause-few c =
    scan-few c.in-Some.scan c.args.text.now c.in-Some-parts.mantissa c.in-Some-parts.zeros c.in-Some.ensures (sym c.parts.ensures
    ∙ c.in-Some-parts.is)

pub returns : goal.returns
returns c =
    let scanned : to_z w32 (of_z w32 c.in-Some.scan.exponent) ≡ c.in-Some.scan.exponent = search rules in
    let passed : to_z w32 (of_z w32 c.normal_exponent-exponent.result) ≡ c.normal_exponent-exponent.result = search rules in
    c.in_range.ensures
    ∙ number-few c.in-Some.scan c.args.text.now c.in-Some-parts.mantissa c.in-Some-parts.zeros
    (to_z w32 (of_z w32 c.normal_exponent-exponent.result)) c.in-Some.ensures
    (sym c.parts.ensures ∙ c.in-Some-parts.is) c.if-mantissa-eq0.false c.if-text-gt-MAX_LITERAL_LEN.false
    (passed ∙ c.normal_exponent-exponent.ensures
    ∙ ap (λ (e : ℤ). (e +ℤ pos c.in-Some-parts.zeros) -ℤ pos c.in-Some.scan.places) scanned)
