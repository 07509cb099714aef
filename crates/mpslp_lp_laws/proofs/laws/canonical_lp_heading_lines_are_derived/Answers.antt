use Rattle.mpslp_lp_laws.proofs.DerivedLines.{headings-derived}
use Rattle.mpslp_lp_laws.proofs.laws.canonical_lp_heading_lines_are_derived.Goals as goal

pub returns : goal.returns
returns c = headings-derived
