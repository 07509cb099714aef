use Rattle.std.proofs.{Common.{arith, length, ltb, rules, sym, w8, ◌∙◌, ◌≡◌}, lemmas.{Bool.eqb-true, Simd.{bitmask_splat, length-zip2}}}
use Rattle.mpslp_decimal.proofs.LaneLemmas.{lanes-digits, less}
use Rattle.mpslp_decimal.proofs.literal.are_eight_digits.Goals as goal

pub returns : goal.returns
returns c =
    let long : length c.args.bytes ≡ 8 = search rules in
    let lanes = bitmask_splat w8 ltb _ 8 10 (length-zip2 less c.args.bytes _ long ∙ long) (omega arith) in
    λ h. lanes-digits c.args.bytes 8 long (search rules) (sym lanes ∙ eqb-true _ _ h)
