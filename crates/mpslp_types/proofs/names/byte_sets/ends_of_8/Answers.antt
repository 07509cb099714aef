use Rattle.mpslp_types.proofs.ByteSetLemmas.{both-ends}
use Rattle.mpslp_types.proofs.names.byte_sets.ends_of_8.Goals as goal

pub returns : goal.returns
returns c = λ test h. both-ends test c.args.text.now 8 c.requires.0 c.requires.1 h
