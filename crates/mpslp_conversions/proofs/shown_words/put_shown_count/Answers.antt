use Rattle.std.proofs.Common.{arith}
use Rattle.mpslp_conversions.proofs.shown_words.put_shown_count.Goals as goal

pub returns : goal.returns
returns = grind arith
