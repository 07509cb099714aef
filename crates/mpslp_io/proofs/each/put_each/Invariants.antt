use Rattle.mpslp_io.specs.EachCall.{AreCalls}
use Rattle.mpslp_io.proofs.each.put_each.Given as goal

-- the calls so far
abbrev pub invariant-loop-i : goal.invariant-loop-i
invariant-loop-i g l = AreCalls g.F.Fn l.put l.i l.fn.output l.output
