use Rattle.mpslp_types.proofs.ByteSetLemmas.{both-ends-twice}
use Rattle.mpslp_types.proofs.names.byte_sets.ends_of_4.Goals as goal

pub returns : goal.returns
returns c = λ test h. both-ends-twice test c.args.text.now 4 c.requires.0 c.requires.1 h
