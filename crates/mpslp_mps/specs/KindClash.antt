-- Lines that would make a column both integer and semi-continuous.
use Rattle.std.specs.Prelude.{ℕ, Bool, false, ◌&&◌, ◌||◌, List, [], ◌∷◌}
use Rattle.std.specs.Option.{option_map_or}
use Rattle.mpslp_builder.specs.Declaration.{Draft, is_integer, is_semi}
use Rattle.mpslp_mps_fields.specs.Line.{Fields}
use Rattle.mpslp_mps_fields.specs.DataLine.{column_shape, bound_type, bound_shape, is_integer_type, is_semi_type}
use Rattle.mpslp_mps.specs.Context.{Context}
use Rattle.mpslp_mps_fields.specs.declared.bound_types.BoundType.{BoundType}

-- a line of a semi-continuous column in an integer block
abbrev pub column_clash : Context → Draft → Fields → Bool
column_clash context earlier fields = context.in_integer_part && option_map_or (λ line. is_semi earlier line.name) (column_shape fields) false

-- a bound that makes a semi-continuous column integer, or an integer column semi-continuous
abbrev pub type_clash : Draft → BoundType → List ℕ → Bool
type_clash earlier type column = (is_integer_type type && is_semi earlier column) || (is_semi_type type && is_integer earlier column)

-- the same for a line of BOUNDS, by its type and its other fields, and by all of them
abbrev pub line_clash : Draft → BoundType → Fields → Bool
line_clash earlier type more = option_map_or (λ line. type_clash earlier type line.column) (bound_shape type more) false

abbrev pub bound_clash : Draft → Fields → Bool
bound_clash earlier [] = false
bound_clash earlier (letters ∷ more) =
    option_map_or (λ type. line_clash earlier type more) (bound_type letters) false
