use Rattle.mpslp_lp_laws.proofs.DerivedLines.{kinds-derived}
use Rattle.mpslp_lp_laws.proofs.laws.canonical_lp_kind_lines_are_derived.Goals as goal

pub returns : goal.returns
returns c = kinds-derived
