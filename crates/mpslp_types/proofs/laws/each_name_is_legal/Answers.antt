use Rattle.std.proofs.Common.{subst}
use Rattle.mpslp_types.specs.Name.{IsMpsName}
use Rattle.mpslp_types.proofs.laws.each_name_is_legal.Goals as goal

pub returns : goal.returns
returns c = subst IsMpsName c.name.view_is c.name.invariant
