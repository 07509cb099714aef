use Rattle.mpslp_mps_laws.proofs.MpsFormat.{is-injective}
use Rattle.mpslp_mps_laws.proofs.laws.one_canonical_mps_text_for_each_model.Goals as goal

pub returns : goal.returns
returns c = is-injective
