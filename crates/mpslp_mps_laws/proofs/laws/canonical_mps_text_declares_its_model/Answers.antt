use Rattle.mpslp_mps_laws.proofs.MpsFormat.{canonical-declares}
use Rattle.mpslp_mps_laws.proofs.laws.canonical_mps_text_declares_its_model.Goals as goal

pub returns : goal.returns
returns c = canonical-declares
