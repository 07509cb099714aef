use Rattle.mpslp_mps.proofs.ModelOrFault.{model-or_fault}
use Rattle.mpslp_mps.proofs.laws.model_or_fault_in_mps.Goals as goal

pub returns : goal.returns
returns c = model-or_fault
