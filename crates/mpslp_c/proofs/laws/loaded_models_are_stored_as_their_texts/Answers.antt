use Rattle.mpslp_c.proofs.StatedMeaning.{stored-as-texts}
use Rattle.mpslp_c.proofs.laws.loaded_models_are_stored_as_their_texts.Goals as goal

pub returns : goal.returns
returns c = stored-as-texts
