use Rattle.std.{proofs.Common.{take, true, ◌≡◌}, specs.{List.list_all, Prelude.min}}
use Rattle.mpslp_decimal.specs.Literal.{digits_sum, is_digit}
use Rattle.mpslp_decimal.proofs.literal.scan_exponent.Given as goal

-- the digits so far
abbrev pub invariant-loop-digit : goal.invariant-loop-digit
invariant-loop-digit l = record {
  size : l.size ≡ min (digits_sum (take l.digit-index l.digits)) 100000;
  digits : list_all is_digit (take l.digit-index l.digits) ≡ true;
}
