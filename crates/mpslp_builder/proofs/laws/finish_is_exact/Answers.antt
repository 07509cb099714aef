use Rattle.mpslp_builder.proofs.{Prelude.model_of, MadeDrafts.{meant-from_made, no_fault-from_made}}
use Rattle.mpslp_builder.proofs.laws.finish_is_exact.Goals as goal

pub returns : goal.returns
returns c = λ all made there. (
  (λ none. (model_of all, meant-from_made all made there none)),
  (λ meant. no_fault-from_made all meant.0 made there meant.1),
)
