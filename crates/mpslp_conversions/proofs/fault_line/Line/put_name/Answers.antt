use Rattle.std.proofs.{Common.{arith}, lemmas.List.{length-append}}
use Rattle.mpslp_conversions.proofs.FaultLineLemmas.{named-bound}
use Rattle.mpslp_conversions.proofs.fault_line.Line.put_name.Goals as goal

pub put-requires-in-Some : goal.put-requires-in-Some
put-requires-in-Some = grind (arith, named-bound, length-append)

pub returns-in-Some-clause-bound : goal.returns-in-Some-clause-bound
returns-in-Some-clause-bound = grind (arith, named-bound)
