-- The lines of the bounds of a column, case by case.
use Rattle.std.{proofs.Common.{arith, ◌≡◌, false, [], ◌∷◌, ◌++◌}, specs.Prelude.{Some, None}}
use Rattle.mpslp_decimal.specs.Decimal.{Number}
use Rattle.mpslp_types.specs.declared.kinds.{Kind.{Kind}, Limit.{Limit}}
use Rattle.mpslp_mps_text.specs.PrintedValues.{bound_with_value, printed_lower, printed_upper, printed_bounds}
use Rattle.mpslp_mps_write.specs.MpsLinesAt.{fixed_value, are_free}
use Rattle.mpslp_mps_fields.specs.declared.bound_types.BoundType.TheVariants as bounds

pub fixed-bounds : (kind : Kind) (lower upper : Limit) (value : Number) → fixed_value kind lower upper ≡ Some value
    → bound_with_value bounds.Fixed value ∷ [] ≡ printed_bounds kind lower upper
fixed-bounds = grind arith

pub other-bounds : (kind : Kind) (lower upper : Limit) → are_free lower upper ≡ false → fixed_value kind lower upper ≡ None
    → printed_lower lower ++ printed_upper kind upper ≡ printed_bounds kind lower upper
other-bounds = grind arith
