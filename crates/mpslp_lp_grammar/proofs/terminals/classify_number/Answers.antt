use Rattle.std.proofs.Common.{arith}
use Rattle.mpslp_lp_grammar.proofs.NumberFaults.{tested-number}
use Rattle.mpslp_lp_grammar.proofs.terminals.classify_number.Goals as goal

pub returns-in-Ok : goal.returns-in-Ok
returns-in-Ok = grind (arith, tested-number)

pub returns-in-Err : goal.returns-in-Err
returns-in-Err = grind (arith, tested-number)
