use Rattle.mpslp_builder.proofs.MadeDrafts.{made_now}
use Rattle.mpslp_builder.proofs.laws.each_builder_is_made.Goals as goal

pub returns : goal.returns
returns c = made_now c.builder.view_is c.builder.invariant.0
