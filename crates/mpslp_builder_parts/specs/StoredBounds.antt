-- Stored bounds.
use Rattle.std.specs.Prelude.{Option, None, Some}
use Rattle.std.specs.Global.{Box}
use Rattle.mpslp_builder_parts.specs.DeclaredBounds.{LowerAndUpper, no_sides}
use Rattle.mpslp_builder_parts.specs.declared.declared_bounds.StoredBounds.{StoredBounds}

abbrev pub sides_stored : Option (Box StoredBounds) → LowerAndUpper
sides_stored None = no_sides
sides_stored (Some sides) = record { lower = sides.value.lower; upper = sides.value.upper }
