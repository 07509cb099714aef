-- How a row is declared, in its form in the code.
use Rattle.std.specs.Prelude.{Bool, Option, None, Some, if◌then◌else◌}
use Rattle.mpslp_decimal.specs.Decimal.{Number}
use Rattle.mpslp_types.specs.declared.kinds.Limit.{Limit}
use Rattle.mpslp_types.specs.declared.kinds.Limit.TheVariants as limits
use Rattle.mpslp_model_core.specs.Limits.{by_type, by_limits}
use Rattle.mpslp_builder_parts.specs.RowParts.{RowParts}
use Rattle.mpslp_builder_parts.specs.declared.row_parts.RowForm.{RowForm}
use Rattle.mpslp_builder_parts.specs.declared.row_parts.RowForm.TheVariants as forms
use Rattle.mpslp_builder_parts.specs.declared.row_parts.Side.{Side}
use Rattle.mpslp_builder_parts.specs.declared.row_parts.Side.TheVariants as sides

abbrev pub limit_of_side : Side → Number → Limit
limit_of_side sides.MinusInf number = limits.MinusInf
limit_of_side sides.Finite number = limits.Finite number
limit_of_side sides.PlusInf number = limits.PlusInf

abbrev pub number_if : Bool → Number → Option Number
number_if has number = if has then Some number else None

abbrev pub row_of_form : RowForm → Number → Number → RowParts
row_of_form (forms.ByType type has_rhs has_range) first second = record { definition = by_type type; rhs = number_if has_rhs first; range = number_if has_range second }
row_of_form (forms.ByLimits lower upper) first second = record { definition = by_limits (limit_of_side lower first) (limit_of_side upper second); rhs = None; range = None }
