use Rattle.std.{proofs.Common.{drop, ◌+◌, ◌≡◌}, specs.List.prefix_len}
use Rattle.mpslp_lp_tokens.specs.Token.{continues_word}
use Rattle.mpslp_lp_tokens.proofs.scan.word_len_by_bytes.Given as goal

-- the bytes so far continue a word
abbrev pub invariant-loop-at : goal.invariant-loop-at
invariant-loop-at l = l.at + prefix_len continues_word (drop l.at l.text) ≡ prefix_len continues_word l.text
