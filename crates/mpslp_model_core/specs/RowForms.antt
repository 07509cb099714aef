-- A declaration of a row in its form in the code, and the declarations that need no calculation.
use Rattle.std.specs.Prelude.{Bool, true, false, Option, None}
use Rattle.mpslp_decimal.specs.Decimal.{Number}
use Rattle.mpslp_model_core.specs.declared.limits.RowDefinition.{RowDefinition as DefinitionInCode}
use Rattle.mpslp_model_core.specs.declared.limits.RowDefinition.TheVariants.{ByType, ByLimits}
use Rattle.mpslp_model_core.specs.Limits.{RowDefinition, by_type, by_limits}

-- the definition in its form in the code
abbrev pub row_definition : DefinitionInCode → RowDefinition
row_definition (ByType type) = by_type type
row_definition (ByLimits lower upper) = by_limits lower upper

-- a row by its type, without a range
abbrev pub is_plain : RowDefinition → Option Number → Bool
is_plain (by_type _) None = true
is_plain _ _ = false
