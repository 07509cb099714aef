use Rattle.mpslp_lp_write.proofs.Prelude
use Prelude.{ap, Bool, cond, [], ◌∷◌, long_line, signed_lexemes, prints_same, prints_nothing}
use Rattle.mpslp_lp_write.proofs.lp.objective.put_constant.Goals as goal

pub returns-then-not-is_zero : goal.returns-then-not-is_zero
returns-then-not-is_zero g c =
    prints_same (ap (λ (none : Bool). cond none [] (long_line (signed_lexemes c.args.value) ∷ []))
    (c.if-not-is_zero.ensures)) c.put_constant_line.ensures

pub returns-else-not-is_zero : goal.returns-else-not-is_zero
returns-else-not-is_zero g c =
    prints_same (ap (λ (none : Bool). cond none [] (long_line (signed_lexemes c.args.value) ∷ []))
    (c.if-not-is_zero.ensures)) (prints_nothing c.args.output.now)
