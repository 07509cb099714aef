use Rattle.mpslp_c.proofs.StatedMeaning.{arrays-define}
use Rattle.mpslp_c.proofs.laws.arrays_define_their_models.Goals as goal

pub returns : goal.returns
returns c = arrays-define
