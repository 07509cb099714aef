use Rattle.mpslp_builder.proofs.MadeDrafts.{answers-the_meaning}
use Rattle.mpslp_builder.proofs.laws.finish_answers_the_meaning.Goals as goal

pub returns : goal.returns
returns c = answers-the_meaning
