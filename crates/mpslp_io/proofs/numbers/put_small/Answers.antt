use Rattle.std.proofs.Common.{ap, arith, List, ℕ, ◌++◌}
use Rattle.mpslp_io.proofs.{NumberLemmas.{one-digit, two-digits}, OutputLemmas.{puts_same}}
use Rattle.mpslp_io.proofs.numbers.put_small.Goals as goal

pub returns-then-number-lt10 : goal.returns-then-number-lt10
returns-then-number-lt10 g c =
    puts_same (ap (λ (digits : List ℕ). c.args.front.now ++ (digits ++ c.args.back.now))
    (one-digit c.args.number (omega (arith, c.if-number-lt10.true)))) c.put_between.ensures

pub returns-else-number-lt10 : goal.returns-else-number-lt10
returns-else-number-lt10 g c =
    puts_same (ap (λ (digits : List ℕ). c.args.front.now ++ (digits ++ c.args.back.now))
    (two-digits c.args.number (omega (arith, c.if-number-lt10.false)) c.requires)) c.put_between-else-number-lt10.ensures
