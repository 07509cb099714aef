use mathlib.Core.Path.{refl}
use Rattle.mpslp_types.specs.NameHash.{folded_multiply}
use Rattle.mpslp_types.proofs.names.hashing.folded_multiply.Goals as goal

pub returns : goal.returns
unfolding folded_multiply
returns c = refl
