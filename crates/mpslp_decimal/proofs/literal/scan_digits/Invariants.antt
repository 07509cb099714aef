use Rattle.std.{proofs.Common.{drop, take, ℕ, ◌*◌, ◌+◌, ◌^◌, ◌≡◌, ◌≤◌}, specs.List.prefix_len}
use Rattle.mpslp_decimal.specs.{Literal.{digits_sum, is_digit}, Scan.{IsSignificandOf, zeros_of}}
use Rattle.mpslp_decimal.proofs.literal.scan_digits.Given as goal

-- the bytes so far are digits, and are read
abbrev pub invariant-loop-at : goal.invariant-loop-at
invariant-loop-at l = record {
  count : l.at + prefix_len is_digit (drop l.at l.text) ≡ prefix_len is_digit l.text;
  value : (n : ℕ) → IsSignificandOf l.fn.before n → IsSignificandOf l.significand (n * 10 ^ l.at + digits_sum (take l.at l.text));
  zeros : zeros_of l.significand ≤ zeros_of l.fn.before + l.at;
}
