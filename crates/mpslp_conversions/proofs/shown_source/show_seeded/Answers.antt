use Rattle.std.proofs.Common.{arith}
use Rattle.mpslp_conversions.proofs.RunLemmas.{run_of}
use Rattle.mpslp_conversions.proofs.shown_source.show_seeded.Goals as goal

pub returns-clause-answer : goal.returns-clause-answer
returns-clause-answer = grind (arith, run_of)
