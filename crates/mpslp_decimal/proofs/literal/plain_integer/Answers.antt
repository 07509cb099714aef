use Rattle.std.proofs.Common.{[], arith, rules, sym, ◌<◌, ◌^◌, ◌∙◌, ◌≡◌}
use Rattle.mpslp_decimal.proofs.{GrammarLemmas.only-number, PlainLemmas.{empty, no-fraction, plain-number}}
use Rattle.mpslp_decimal.proofs.literal.plain_integer.Goals as goal

pub returns-clause-value : goal.returns-clause-value
returns-clause-value c =
    let unsigned = c.split_sign-is_negative.result.1.now in
    let none : c.in_ok-size.rest.now ≡ [] = empty c.in_ok-size.rest.now (sym c.is_empty.ensures ∙ c.if-not-is_empty.false) in
    let small : c.in_ok-size.size < 2 ^ 64 = search rules in
    plain-number c.args.text.now unsigned c.in_ok-size.rest.now c.split_sign-is_negative.result.0 c.in_ok-size.size
    c.split_sign-is_negative.ensures.minus c.split_sign-is_negative.ensures.rest c.in_ok-size.ensures.rest none
    (only-number unsigned c.in_ok-size.size c.in_ok-size.ensures.number
    (no-fraction unsigned c.in_ok-size.rest.now c.in_ok-size.ensures.rest none)) (omega arith)
    (omega (arith, small)) (omega (arith, c.if-text-gt-PLAIN_LEN.false))
