use Rattle.mpslp_lp_laws.proofs.DerivedLines.{bounds-derived}
use Rattle.mpslp_lp_laws.proofs.laws.canonical_lp_bound_lines_are_derived.Goals as goal

pub returns : goal.returns
returns c = bounds-derived
