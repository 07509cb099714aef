use Rattle.mpslp_lp_laws.proofs.LpFormat.{is-injective}
use Rattle.mpslp_lp_laws.proofs.laws.one_canonical_lp_text_for_each_model.Goals as goal

pub returns : goal.returns
returns c = is-injective
