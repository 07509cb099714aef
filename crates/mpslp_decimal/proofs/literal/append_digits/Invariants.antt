use Rattle.std.{proofs.Common.{drop, take, ◌*◌, ◌+◌, ◌^◌, ◌≡◌}, specs.List.prefix_len}
use Rattle.mpslp_decimal.specs.Literal.{digits_sum, is_digit}
use Rattle.mpslp_decimal.proofs.literal.append_digits.Given as goal

-- the bytes so far are digits, and are appended
abbrev pub invariant-loop-at : goal.invariant-loop-at
invariant-loop-at l = record {
  count : l.at + prefix_len is_digit (drop l.at l.text) ≡ prefix_len is_digit l.text;
  value : l.number ≡ l.fn.before * 10 ^ l.at + digits_sum (take l.at l.text);
}
