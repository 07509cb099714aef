use Rattle.mpslp_lp.proofs.ModelOrFault.{model-unless_faulty}
use Rattle.mpslp_lp.proofs.laws.model_without_fault_in_lp.Goals as goal

pub returns : goal.returns
returns c = model-unless_faulty
