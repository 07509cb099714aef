use Rattle.std.proofs.Common.{length}
use Rattle.mpslp_decimal.specs.Scan.{IsLeft}
use Rattle.mpslp_decimal.proofs.literal.append_many_digits.Given as goal

-- the digits so far are appended
abbrev pub invariant-loop-bytes : goal.invariant-loop-bytes
invariant-loop-bytes l = IsLeft l.before l.text l.number l.rest

abbrev pub decreases-loop-bytes : goal.decreases-loop-bytes
decreases-loop-bytes l = length l.rest
