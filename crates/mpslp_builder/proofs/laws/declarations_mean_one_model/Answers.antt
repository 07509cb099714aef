-- Written out, since `search` takes a minute to give up a definition that means more than one model.
use Rattle.std.proofs.Common.{sym, ◌∙◌}
use Rattle.mpslp_builder.proofs.laws.declarations_mean_one_model.Goals as goal

pub returns : goal.returns
returns c = λ _ m n first second. first.meant.model ∙ sym second.meant.model
