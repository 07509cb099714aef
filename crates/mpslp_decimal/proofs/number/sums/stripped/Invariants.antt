use Rattle.mpslp_decimal.proofs.StripLemmas.{IsPartlyStripped}
use Rattle.mpslp_decimal.proofs.number.sums.stripped.Given as goal

abbrev pub invariant-loop-mantissa : goal.invariant-loop-mantissa
invariant-loop-mantissa l = IsPartlyStripped l.number l.mantissa l.zeros

abbrev pub decreases-loop-mantissa : goal.decreases-loop-mantissa
decreases-loop-mantissa l = l.mantissa
