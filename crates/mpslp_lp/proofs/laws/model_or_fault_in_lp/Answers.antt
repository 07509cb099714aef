use Rattle.mpslp_lp.proofs.ModelOrFault.{model-or_fault}
use Rattle.mpslp_lp.proofs.laws.model_or_fault_in_lp.Goals as goal

pub returns : goal.returns
returns c = model-or_fault
