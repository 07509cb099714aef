use Rattle.std.proofs.Common.{subst}
use Rattle.mpslp_model_core.specs.Model.{IsSound}
use Rattle.mpslp_model_core.proofs.laws.each_model_is_sound.Goals as goal

pub returns : goal.returns
returns c = subst IsSound c.model.view_is c.model.invariant.parts.sound
