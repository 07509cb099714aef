use Rattle.std.{proofs.Common.{length, ◌+◌, ◌-◌, ◌≡◌, ◌≤◌}, specs.List.prefix_len}
use Rattle.mpslp_lp_tokens.specs.Token.{continues_word}
use Rattle.mpslp_lp_tokens.proofs.scan.word_len.Given as goal

-- the bytes so far continue a word
abbrev pub invariant-loop-rest : goal.invariant-loop-rest
invariant-loop-rest l = (length l.rest ≤ length l.text)
    × ((length l.text - length l.rest) + prefix_len continues_word l.rest ≡ prefix_len continues_word l.text)

abbrev pub decreases-loop-rest : goal.decreases-loop-rest
decreases-loop-rest l = length l.rest
