use Rattle.std.proofs.Common.{ap, arith, of_z, refl, rules, sym, to_z, w32, ◌+ℤ◌, ◌-ℤ◌, ◌∙◌, ◌≡◌}
use Rattle.std.specs.Prelude.{pos, ℤ}
use Rattle.mpslp_decimal.proofs.PlainLemmas.{positive, short-scanned, stripped-scanned, within-range}
use Rattle.mpslp_decimal.proofs.SpellsLemmas.{number-few, number-zero, scan-zeros}
use Rattle.mpslp_decimal.specs.Scan.{IsStripped}
use Rattle.mpslp_decimal.proofs.literal.short_parts.Goals as goal

pub returns-then-mantissa-eq0-clause-value : goal.returns-then-mantissa-eq0-clause-value
returns-then-mantissa-eq0-clause-value c =
    let none : IsStripped c.in_ok-mantissa.mantissa.number 0 0 =
    record { value = sym c.if-mantissa-eq0.true; ends = λ some. absurd (omega (arith, some, c.if-mantissa-eq0.true)) } in
    let scan = short-scanned c.args.text.now _ c.in_ok-mantissa.rest.now c.split_sign-is_negative.result.0 _ _ _
    c.in_ok-mantissa.mantissa.places c.in_ok-exponent.exponent c.split_sign-is_negative.ensures.minus
    c.split_sign-is_negative.ensures.rest c.in_ok-mantissa.ensures.rest c.in_ok-mantissa.ensures.number
    (omega (arith, positive _ c.if-mantissa-eq0-2.false, c.in_ok-mantissa.ensures.digits))
    c.in_ok-mantissa.ensures.places (sym c.scan_exponent_part.ensures ∙ c.in_ok-exponent.was) none (omega arith) (omega arith) in
    sym (number-zero _ c.args.text.now 0 0 scan refl refl (omega (arith, c.if-text-ge-MAX_LITERAL_LEN.false)))

pub normal_exponent-exponent-requires-clause-zeros : goal.normal_exponent-exponent-requires-clause-zeros
normal_exponent-exponent-requires-clause-zeros c =
    let scan = stripped-scanned c.args.text.now _ c.in_ok-mantissa.rest.now c.split_sign-is_negative.result.0 _ _ _
    c.in_ok-mantissa.mantissa.places c.in_ok-exponent.exponent c.split_sign-is_negative.ensures.minus
    c.split_sign-is_negative.ensures.rest c.in_ok-mantissa.ensures.rest c.in_ok-mantissa.ensures.number
    c.if-mantissa-eq0.false c.in_ok-mantissa.ensures.places (sym c.scan_exponent_part.ensures
    ∙ c.in_ok-exponent.was) c.stripped-size.ensures (search rules) in
    scan-zeros _ c.args.text.now _ _ scan refl (omega (arith, c.if-text-ge-MAX_LITERAL_LEN.false))

pub normal_exponent-exponent-requires-clause-places : goal.normal_exponent-exponent-requires-clause-places
normal_exponent-exponent-requires-clause-places c =
    let scan = stripped-scanned c.args.text.now _ c.in_ok-mantissa.rest.now c.split_sign-is_negative.result.0 _ _ _
    c.in_ok-mantissa.mantissa.places c.in_ok-exponent.exponent c.split_sign-is_negative.ensures.minus
    c.split_sign-is_negative.ensures.rest c.in_ok-mantissa.ensures.rest c.in_ok-mantissa.ensures.number
    c.if-mantissa-eq0.false c.in_ok-mantissa.ensures.places (sym c.scan_exponent_part.ensures
    ∙ c.in_ok-exponent.was) c.stripped-size.ensures (search rules) in
    omega (arith, scan.places, scan.places_within, c.if-text-ge-MAX_LITERAL_LEN.false)

pub returns-clause-value : goal.returns-clause-value
returns-clause-value c =
    let scan = stripped-scanned c.args.text.now _ c.in_ok-mantissa.rest.now c.split_sign-is_negative.result.0 _ _ _
    c.in_ok-mantissa.mantissa.places c.in_ok-exponent.exponent c.split_sign-is_negative.ensures.minus
    c.split_sign-is_negative.ensures.rest c.in_ok-mantissa.ensures.rest c.in_ok-mantissa.ensures.number
    c.if-mantissa-eq0.false c.in_ok-mantissa.ensures.places (sym c.scan_exponent_part.ensures
    ∙ c.in_ok-exponent.was) c.stripped-size.ensures (search rules) in
    let scanned : to_z w32 (of_z w32 c.in_ok-exponent.exponent) ≡ c.in_ok-exponent.exponent = search rules in
    let passed : to_z w32 (of_z w32 c.normal_exponent-exponent.result) ≡ c.normal_exponent-exponent.result = search rules in
    let ends = c.stripped-size.ensures.ends (positive _ c.if-mantissa-eq0.false) in
    sym (number-few _ c.args.text.now _ _ (to_z w32 (of_z w32 c.normal_exponent-exponent.result)) scan refl
    (λ none. absurd (omega (arith, none, ends))) (omega (arith, c.if-text-ge-MAX_LITERAL_LEN.false))
    (passed ∙ c.normal_exponent-exponent.ensures
    ∙ ap (λ (e : ℤ). (e +ℤ pos c.stripped-size.result.1) -ℤ pos c.in_ok-mantissa.mantissa.places) scanned))
    ∙ within-range _ (search rules) (search rules)
