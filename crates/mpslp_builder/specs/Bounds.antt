-- The type and bounds of a column of a draft.
use Rattle.std.specs.Prelude.{ℕ, Bool, List}
pub use Rattle.mpslp_types.specs.Limit.{zero_limit}
pub use Rattle.mpslp_model_core.specs.Limits.{one_limit}
use Rattle.mpslp_model_core.specs.Limits.{no_side_declared, upper_by_default, declared_lower, declared_upper, declared_kind}
use Rattle.mpslp_model_core.specs.WrongParts.{are_crossed_bounds, are_no_semi_bounds}
use Rattle.mpslp_builder.specs.Declaration.{Draft}
use Rattle.mpslp_types.specs.declared.kinds.Kind.{Kind}
use Rattle.mpslp_types.specs.declared.kinds.Limit.{Limit}
use Rattle.mpslp_builder.specs.Meaning.{declared_of}

abbrev pub has_no_side : Draft → List ℕ → Bool
has_no_side all column = no_side_declared (declared_of all column)

abbrev pub default_upper : Draft → List ℕ → Limit
default_upper all column = upper_by_default (declared_of all column)

abbrev pub lower_bound : Draft → List ℕ → Limit
lower_bound all column = declared_lower (declared_of all column)

abbrev pub upper_bound : Draft → List ℕ → Limit
upper_bound all column = declared_upper (declared_of all column)

abbrev pub kind_of : Draft → List ℕ → Kind
kind_of all column = declared_kind (declared_of all column)

abbrev pub has_crossed_bounds : Draft → List ℕ → Bool
has_crossed_bounds all column = are_crossed_bounds (declared_of all column)

abbrev pub has_semi_bounds : Draft → List ℕ → Bool
has_semi_bounds all column = are_no_semi_bounds (declared_of all column)
