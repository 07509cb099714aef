use Rattle.std.proofs.Common.{◌≡◌, sym, subst, IfSome, Option}
use Rattle.mpslp_decimal.specs.Decimal.{Number}
use Rattle.mpslp_model_core.specs.declared.limits.RowDefinition.{RowDefinition}
use Rattle.mpslp_model_core.specs.{RowForms.{row_definition}, WrongParts.{is_large_limit, is_faulty_row}}
use Rattle.mpslp_model_core.proofs.limits.only_limit.Goals as goal

pub returns-in-ByLimits : goal.returns-in-ByLimits
returns-in-ByLimits c = subst (λ (definition : RowDefinition). IfSome c.limit_of_limits.result
    (λ limit. (b : Number) → (r : Option Number) →
    is_large_limit limit ≡ is_faulty_row (row_definition definition) b r)) (sym c.in-ByLimits.is) c.limit_of_limits.ensures
