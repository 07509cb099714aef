use Rattle.mpslp_builder.proofs.SlotLemmas.{means-permutation}
use Rattle.mpslp_builder.proofs.laws.order_is_of_no_account.Goals as goal

pub returns : goal.returns
returns c = means-permutation
