use Rattle.std.proofs.Common.{◌*◌, ◌<◌, ◌^◌, ◌≡◌}
use Rattle.mpslp_decimal.proofs.literal.long_followed_by.Given as goal

-- the mantissa with this number of zeros appended
abbrev pub invariant-loop-place : goal.invariant-loop-place
invariant-loop-place l = record {
  value : l.shifted ≡ l.initial.shifted * 10 ^ l._place;
  small : 0 < l._place → l.shifted < 10 ^ 36;
}
