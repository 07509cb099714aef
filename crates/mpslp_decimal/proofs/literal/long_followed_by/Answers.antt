use Rattle.std.proofs.Common.{arith}
use Rattle.mpslp_decimal.proofs.SpellsLemmas.{digit-after, many-digit, one-more-zero, zero-after}
use Rattle.mpslp_decimal.proofs.literal.long_followed_by.Goals as goal

pub returns-then-digit-eq0-clause-value : goal.returns-then-digit-eq0-clause-value
returns-then-digit-eq0-clause-value c =
    λ n is. (zero-after n c.args.mantissa c.args.zeros c.args.digit is.0 c.if-digit-eq0.true, is.1)

pub returns-then-shifted-ge-LONG_ROOM-clause-value : goal.returns-then-shifted-ge-LONG_ROOM-clause-value
returns-then-shifted-ge-LONG_ROOM-clause-value c = λ n is.
    many-digit n c.args.mantissa c.args.zeros c.loop-place._place c.loop-place.shifted c.args.digit is.0
    c.loop-place.invariant.value (omega arith)
    c.if-shifted-ge-LONG_ROOM.true (omega arith) c.requires.digit

pub overflow_add-result-2 : goal.overflow_add-result-2
overflow_add-result-2 c = omega (arith, c.loop-place.invariant.small)

pub returns-clause-value : goal.returns-clause-value
returns-clause-value c = λ n is.
    digit-after n c.args.mantissa c.args.zeros c.loop-place._place c.loop-place.shifted c.args.digit c.from.result is.0
    c.loop-place.invariant.value
    (omega arith) (c.loop-place.invariant.small (omega arith)) c.from.ensures (omega arith) c.requires.digit

pub loop-place-preserved : goal.loop-place-preserved
loop-place-preserved c = record {
  value = one-more-zero c.loop-place.shifted c.args.mantissa c.loop-place._place c.loop-place.invariant.value;
  small = λ _. omega arith;
}
