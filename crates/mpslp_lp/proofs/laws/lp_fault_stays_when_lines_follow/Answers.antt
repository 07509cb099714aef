use Rattle.mpslp_lp.proofs.LineReaderLemmas.{faults-stay}
use Rattle.mpslp_lp.proofs.laws.lp_fault_stays_when_lines_follow.Goals as goal

pub returns : goal.returns
returns c = faults-stay
