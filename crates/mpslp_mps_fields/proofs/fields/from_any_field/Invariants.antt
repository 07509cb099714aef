use Rattle.std.{proofs.Common.{drop, length, not, ◌≡◌}, specs.List.position_or_len}
use Rattle.mpslp_mps_fields.specs.Line.{is_blank}
use Rattle.mpslp_mps_fields.proofs.fields.from_any_field.Given as goal

-- what is left has the same first field
abbrev pub invariant-loop-rest : goal.invariant-loop-rest
invariant-loop-rest l = drop (position_or_len (λ byte. not (is_blank byte)) l.rest) l.rest
    ≡ drop (position_or_len (λ byte. not (is_blank byte)) l.text) l.text

abbrev pub decreases-loop-rest : goal.decreases-loop-rest
decreases-loop-rest l = length l.rest
