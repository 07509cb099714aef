use Rattle.std.proofs.Common.{arith}
use Rattle.mpslp_lp_grammar.proofs.LpWords.{name-without_fault}
use Rattle.mpslp_lp_grammar.proofs.terminals.classify_lp_word.Goals as goal

pub returns-in-None : goal.returns-in-None
returns-in-None = grind (arith, name-without_fault)
