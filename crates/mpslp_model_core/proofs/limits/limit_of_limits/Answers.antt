use Rattle.std.proofs.Common.{◌≡◌, sym, subst, IfSome, Option}
use Rattle.mpslp_decimal.specs.Decimal.{Number}
use Rattle.mpslp_types.specs.declared.kinds.Limit.{Limit, TheVariants.{Finite}}
use Rattle.mpslp_model_core.specs.{Limits.{by_limits}, WrongParts.{is_large_limit, is_faulty_row}}
use Rattle.mpslp_model_core.proofs.limits.limit_of_limits.Goals as goal

pub returns-in-Finite-upper : goal.returns-in-Finite-upper
returns-in-Finite-upper c =
    let upper = subst (λ (u : Limit). IfSome c.limit_of_both.result (λ limit. (b : Number) → (r : Option Number) →
    is_large_limit limit ≡ is_faulty_row (by_limits (Finite c.in-Finite.value) u) b r)) (sym c.in-Finite-upper.is)
    c.limit_of_both.ensures in
    subst (λ (l : Limit). IfSome c.limit_of_both.result (λ limit. (b : Number) → (r : Option Number) → is_large_limit limit
    ≡ is_faulty_row (by_limits l c.args.upper.now) b r)) (sym c.in-Finite.is) upper
