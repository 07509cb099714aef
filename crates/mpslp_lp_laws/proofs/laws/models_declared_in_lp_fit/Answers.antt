use Rattle.mpslp_lp_laws.proofs.LpFormat.{declared-fits}
use Rattle.mpslp_lp_laws.proofs.laws.models_declared_in_lp_fit.Goals as goal

pub returns : goal.returns
returns c = declared-fits
