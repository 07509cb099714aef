use Rattle.std.{proofs.Common.{drop, ◌+◌, ◌≡◌}, specs.List.prefix_len}
use Rattle.mpslp_decimal.specs.Literal.{is_digit}
use Rattle.mpslp_lp_tokens.proofs.scan.digits_len.Given as goal

-- the bytes so far are digits
abbrev pub invariant-loop-at : goal.invariant-loop-at
invariant-loop-at l = l.at + prefix_len is_digit (drop l.at l.text) ≡ prefix_len is_digit l.text
