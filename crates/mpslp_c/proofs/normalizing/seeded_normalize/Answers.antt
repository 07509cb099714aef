use Rattle.mpslp_c.proofs.DefinesLemmas.{normalized_so}
use Rattle.mpslp_c.proofs.normalizing.seeded_normalize.Goals as goal

pub returns : goal.returns
returns c = normalized_so c.args.model.now c.normalized.result c.give_arrays.result _ _ _ _ c.normalized.ensures.answer
    c.normalized.ensures.accepts c.normalized.ensures.refuses c.give_arrays.ensures
