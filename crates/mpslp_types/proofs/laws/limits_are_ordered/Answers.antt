use Rattle.mpslp_types.proofs.LimitLemmas.{limits-ordered}
use Rattle.mpslp_types.proofs.laws.limits_are_ordered.Goals as goal

pub returns : goal.returns
returns c = limits-ordered
