use Rattle.std.proofs.Common.{arith, sym, subst, ℕ, List, ◌≡◌, ◌++◌, drop, replicate, get_or}
use Rattle.mpslp_builder_parts.proofs.FirstBytes.{padded}
use Rattle.mpslp_builder_parts.proofs.order.first_bytes.Goals as goal

pub returns : goal.returns
returns c i l =
    let name = c.args.name.now in
    let len = c.min-len.result in
    subst (λ (bytes : List ℕ). get_or (bytes ++ drop len (replicate 8 0)) i 0 ≡ get_or name i 0)
    (sym c.copy_from_slice.ensures.after)
    (padded 8 len i name (omega (arith, c.min-len.ensures)) (λ past. omega (arith, past, l, c.min-len.ensures)))
