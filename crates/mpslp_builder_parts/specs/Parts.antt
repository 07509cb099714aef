-- What is declared of the objective, of a row and of a column, and what it becomes in a model.
use Rattle.std.specs.Prelude.{ℕ, Bool, true, false, List, [], Option, Some, None, unwrap_or, if◌then◌else◌}
use Rattle.std.specs.Ordering.{nat_cmp}
use Rattle.std.specs.FinMap.{put}
use Rattle.mpslp_decimal.specs.Decimal.{Number, zero_number}
use Rattle.mpslp_types.specs.declared.kinds.Limit.{Limit}
use Rattle.mpslp_types.specs.declared.kinds.RowType.TheVariants.{Free}
use Rattle.mpslp_model_core.specs.Model.{Row, Column}
use Rattle.mpslp_model_core.specs.Limits.{RowDefinition, limits_of, plain_limits, declared_column}
use Rattle.mpslp_model_core.specs.Numbered.{moved_cells}
use Rattle.mpslp_model_core.specs.declared.bounds.DeclaredColumn.{DeclaredColumn}
use Rattle.mpslp_builder_parts.specs.DeclaredBounds.{LowerAndUpper, no_sides, sides_put}
use Rattle.mpslp_builder_parts.specs.declared.parts.ObjectiveParts.{ObjectiveParts}
use Rattle.mpslp_builder_parts.specs.RowParts.{RowParts}
use Rattle.mpslp_builder_parts.specs.declared.parts.ColumnDefinition.{ColumnDefinition}
use Rattle.mpslp_builder_parts.specs.declared.parts.Property.{Property}
use Rattle.mpslp_builder_parts.specs.declared.parts.Property.TheVariants.{Marked, Integer, Binary, Semi}

-- ---- what is declared of a row or of a column

pub record ColumnParts : Type 0 where
  pub cells : List (ℕ × Number)
  pub sides : LowerAndUpper
  pub marked : Bool
  pub integer : Bool
  pub binary : Bool
  pub semi : Bool

abbrev pub new_row : RowDefinition → RowParts
new_row definition = record { definition = definition; rhs = None; range = None }

abbrev pub definition_of : RowParts → RowDefinition
definition_of row = row.definition

abbrev pub rhs_of : RowParts → Option Number
rhs_of row = row.rhs

abbrev pub range_of : RowParts → Option Number
range_of row = row.range

abbrev pub no_part : ColumnParts → Unit {0}
no_part column = tt

abbrev pub cells_of : ColumnParts → List (ℕ × Number)
cells_of column = column.cells

abbrev pub lower_of : ColumnParts → Option Limit
lower_of column = column.sides.lower

abbrev pub upper_of : ColumnParts → Option Limit
upper_of column = column.sides.upper

-- a truth value as an optional part
abbrev pub as_part : Bool → Option (Unit {0})
as_part b = if b then Some tt else None

abbrev pub mark_of : ColumnParts → Option (Unit {0})
mark_of column = as_part column.marked

abbrev pub integer_of : ColumnParts → Option (Unit {0})
integer_of column = as_part column.integer

abbrev pub binary_of : ColumnParts → Option (Unit {0})
binary_of column = as_part column.binary

abbrev pub semi_of : ColumnParts → Option (Unit {0})
semi_of column = as_part column.semi

abbrev pub new_column : ColumnParts
new_column = record { cells = []; sides = no_sides; marked = false; integer = false; binary = false; semi = false }

-- with the given bounds
abbrev pub with_bounds : Option Limit → Option Limit → ColumnParts → ColumnParts
with_bounds lower upper column = record column { sides = sides_put lower upper column.sides }

-- with a property
abbrev pub with_property : Property → ColumnParts → ColumnParts
with_property Marked column = record column { marked = true }
with_property Integer column = record column { integer = true }
with_property Binary column = record column { binary = true }
with_property Semi column = record column { semi = true }

-- what is declared, apart from the coefficients
abbrev pub declared_in : ColumnParts → DeclaredColumn
declared_in column = record {
  lower = lower_of column;
  upper = upper_of column;
  marked = column.marked;
  integer = column.integer;
  binary = column.binary;
  semi = column.semi;
}

-- ---- the coefficients of a column, and what else is declared of it

abbrev pub parts_with : List (ℕ × Number) → ColumnDefinition → ColumnParts
parts_with cells definition = record {
  cells = cells;
  sides = definition.sides;
  marked = definition.marked;
  integer = definition.integer;
  binary = definition.binary;
  semi = definition.semi;
}

abbrev pub definition_in : ColumnParts → ColumnDefinition
definition_in column = record {
  sides = column.sides;
  marked = column.marked;
  integer = column.integer;
  binary = column.binary;
  semi = column.semi;
}

-- with a property
abbrev pub defined_with : Property → ColumnDefinition → ColumnDefinition
defined_with Marked definition = record definition { marked = true }
defined_with Integer definition = record definition { integer = true }
defined_with Binary definition = record definition { binary = true }
defined_with Semi definition = record definition { semi = true }

-- with one more coefficient
abbrev pub with_cell : ℕ → Number → ColumnParts → ColumnParts
with_cell row value column = record column { cells = put nat_cmp row value column.cells }

-- ---- in a model

-- the limits of a row; if they are not decimals, those of a row without limits
abbrev pub limits_in : RowParts → Row
limits_in row = unwrap_or (limits_of row.definition (unwrap_or row.rhs zero_number) row.range) (plain_limits Free zero_number)

-- a part as it is
abbrev pub itself : {X : Type 0} → X → X
itself part = part

abbrev pub bounds_of : ColumnParts → Column
bounds_of column = declared_column (declared_in column)

-- its coefficients with the final numbers of their rows
abbrev pub moved_in : List ℕ → ColumnParts → List (ℕ × Number)
moved_in ranks column = moved_cells ranks column.cells

-- the right-hand side of the objective
abbrev pub rhs_in : Option ObjectiveParts → Option Number
rhs_in None = None
rhs_in (Some objective) = objective.rhs
