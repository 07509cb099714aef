use Rattle.mpslp_types.proofs.NameLemmas.{mps_name-from_lp}
use Rattle.mpslp_types.proofs.laws.lp_names_are_mps_names.Goals as goal

pub returns : goal.returns
returns c = mps_name-from_lp
