-- The declared bounds of a column.
use Rattle.std.specs.Prelude.{Option, None, Some}
use Rattle.mpslp_types.specs.declared.kinds.Limit.{Limit}

pub record LowerAndUpper : Type 0 where
  pub lower : Option Limit
  pub upper : Option Limit

abbrev pub no_sides : LowerAndUpper
no_sides = record { lower = None; upper = None }

-- a given bound replaces the declared one
abbrev pub side_put : Option Limit → Option Limit → Option Limit
side_put None old = old
side_put (Some side) old = Some side

abbrev pub sides_put : Option Limit → Option Limit → LowerAndUpper → LowerAndUpper
sides_put lower upper old = record { lower = side_put lower old.lower; upper = side_put upper old.upper }
