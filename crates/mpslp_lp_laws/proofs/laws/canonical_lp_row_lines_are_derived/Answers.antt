use Rattle.mpslp_lp_laws.proofs.DerivedLines.{rows-derived}
use Rattle.mpslp_lp_laws.proofs.laws.canonical_lp_row_lines_are_derived.Goals as goal

pub returns : goal.returns
returns c = rows-derived
