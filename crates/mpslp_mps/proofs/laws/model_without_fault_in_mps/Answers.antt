use Rattle.mpslp_mps.proofs.ModelOrFault.{model-unless_faulty}
use Rattle.mpslp_mps.proofs.laws.model_without_fault_in_mps.Goals as goal

pub returns : goal.returns
returns c = model-unless_faulty
