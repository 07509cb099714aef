use Rattle.std.proofs.Common.{arith, length, rules, subst, sym, ◌*◌, ◌+◌, ◌<◌, ◌^◌, ◌≡◌}
use Rattle.mpslp_decimal.proofs.{LaneLemmas.{several-appended, then-left}, SpellsLemmas.{digits-each, digits_sum-small}}
use Rattle.mpslp_decimal.specs.{Literal.digits_sum, Scan.IsLeft}
use Rattle.mpslp_decimal.proofs.literal.append_many_digits.Goals as goal

pub overflow_add-number : goal.overflow_add-number
overflow_add-number c =
    let long : length c.in-Some.bytes.now ≡ 8 = search rules in
    let small = digits_sum-small _ (digits-each _ c.in-Some-eight_digits.ensures.0) in
    let below : digits_sum c.in-Some.bytes.now < 10 ^ 8 = subst (λ n. digits_sum c.in-Some.bytes.now < 10 ^ n) long small in
    omega (arith, below, c.in-Some-eight_digits.ensures.1, c.if-number-ge-EIGHT_ROOM.false)

pub loop-bytes-preserved : goal.loop-bytes-preserved
loop-bytes-preserved c =
    let long : length c.in-Some.bytes.now ≡ 8 = search rules in
    let left = several-appended c.loop-bytes.number 8 c.loop-bytes.rest.now _ _ c.in-Some.ensures.cases.0
    c.in-Some.ensures.cases.1 long c.in-Some-eight_digits.ensures.0 in
    then-left _ _ _ _ _ _ c.loop-bytes.invariant
    (subst (λ eight. IsLeft c.loop-bytes.number c.loop-bytes.rest.now (c.loop-bytes.number * 100000000 + eight)
    c.in-Some.more.now) (sym c.in-Some-eight_digits.ensures.1) left)
