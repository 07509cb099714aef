use Rattle.mpslp_lp_laws.proofs.LpFormat.{canonical-declares}
use Rattle.mpslp_lp_laws.proofs.laws.canonical_lp_text_declares_its_model.Goals as goal

pub returns : goal.returns
returns c = canonical-declares
