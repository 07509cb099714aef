-- What is declared of a row.
use Rattle.std.specs.Prelude.{Option}
use Rattle.mpslp_decimal.specs.Decimal.{Number}
use Rattle.mpslp_model_core.specs.Limits.{RowDefinition}

pub record RowParts : Type 0 where
  pub definition : RowDefinition
  pub rhs : Option Number
  pub range : Option Number
