use Rattle.std.proofs.Common.{ap, List, ℕ, ◌++◌}
use Rattle.mpslp_io.proofs.{NumberLemmas.{size-text}, OutputLemmas.{puts_same}}
use Rattle.mpslp_io.proofs.numbers.put_size.Goals as goal

pub returns-in-Some : goal.returns-in-Some
returns-in-Some g c =
    let is = c.in-Some.ensures in
    puts_same (ap (λ (digits : List ℕ). c.args.front.now ++ (digits ++ c.args.back.now))
    (size-text c.args.value c.in-Some.size is.0 is.1)) c.put_small.ensures
