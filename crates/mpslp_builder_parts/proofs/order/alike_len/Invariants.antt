use Rattle.std.proofs.Common.{take, ◌≡◌}
use Rattle.mpslp_builder_parts.proofs.order.alike_len.Given as goal

-- the bytes before this one are the same
abbrev pub invariant-loop-len : goal.invariant-loop-len
invariant-loop-len l = take l.len l.first ≡ take l.len l.name
