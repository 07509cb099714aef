use Rattle.std.{proofs.Common.{take, ◌≡◌}, specs.List.list_all}
use Rattle.mpslp_lines.specs.FaultTests.{is_legal_byte}
use Rattle.mpslp_lines.proofs.legal_line.are_legal_one_by_one.Given as goal

-- the bytes so far
abbrev pub invariant-loop-byte : goal.invariant-loop-byte
invariant-loop-byte l = l.legal ≡ list_all is_legal_byte (take l.byte-index l.text)
