use Rattle.mpslp_types.specs.NameHash.{read_u32}
use Rattle.mpslp_types.proofs.names.hashing.read_u32.Goals as goal

pub returns : goal.returns
unfolding read_u32
returns c = c.from_le_bytes.ensures
