use Rattle.std.proofs.Common.{arith}
use Rattle.mpslp_conversions.proofs.shown_text.write_shown.Goals as goal

pub returns : goal.returns
returns = grind arith
