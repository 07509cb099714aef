use Rattle.std.proofs.Common.{arith, rules}
use Rattle.mpslp_decimal.proofs.LaneLemmas.{eight-number}
use Rattle.mpslp_decimal.proofs.literal.eight_digits.Goals as goal

pub overflow_sub-digits : goal.overflow_sub-digits
overflow_sub-digits c =
    let all = c.are_eight_digits.ensures c.if-not-are_eight_digits.false in
    (eight-number c.args.bytes _ (search rules) all c.from_le_bytes-digits.ensures).least

pub overflow_mul-pairs : goal.overflow_mul-pairs
overflow_mul-pairs c =
    let all = c.are_eight_digits.ensures c.if-not-are_eight_digits.false in
    omega (arith, (eight-number c.args.bytes _ (search rules) all c.from_le_bytes-digits.ensures).most)

pub overflow_add-pairs : goal.overflow_add-pairs
overflow_add-pairs c =
    let all = c.are_eight_digits.ensures c.if-not-are_eight_digits.false in
    omega (arith, (eight-number c.args.bytes _ (search rules) all c.from_le_bytes-digits.ensures).most)

pub returns : goal.returns
returns c =
    let all = c.are_eight_digits.ensures c.if-not-are_eight_digits.false in
    (all, (eight-number c.args.bytes _ (search rules) all c.from_le_bytes-digits.ensures).value)
