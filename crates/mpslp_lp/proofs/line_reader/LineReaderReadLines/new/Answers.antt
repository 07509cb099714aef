use Rattle.mpslp_lp.proofs.{Prelude.{sym, subst, [], LedTo, Between, AtStart}, LineReaderLemmas.{led-none}}
use Rattle.mpslp_lp.proofs.line_reader.LineReaderReadLines.new.Goals as goal

pub returns : goal.returns
returns c = subst (λ b. LedTo [] b (Between AtStart) 1) (sym c.start.ensures) led-none
