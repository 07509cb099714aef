use Rattle.mpslp_builder.proofs.MadeDrafts.{consistent-from_made}
use Rattle.mpslp_builder.proofs.laws.made_declarations_are_consistent.Goals as goal

pub returns : goal.returns
returns c = consistent-from_made
