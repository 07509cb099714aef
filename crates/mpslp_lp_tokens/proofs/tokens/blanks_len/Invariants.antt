use Rattle.std.{proofs.Common.{drop, ◌+◌, ◌≡◌}, specs.List.prefix_len}
use Rattle.mpslp_lp_tokens.specs.Token.{is_blank}
use Rattle.mpslp_lp_tokens.proofs.tokens.blanks_len.Given as goal

-- the bytes so far are spaces and tabs
abbrev pub invariant-loop-at : goal.invariant-loop-at
invariant-loop-at l = l.at + prefix_len is_blank (drop l.at l.text) ≡ prefix_len is_blank l.text
