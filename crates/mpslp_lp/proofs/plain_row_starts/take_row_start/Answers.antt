use Rattle.mpslp_lp.proofs.Prelude.{subst, Terminal, Begins}
use Rattle.mpslp_lp.proofs.plain_row_starts.take_row_start.Goals as goal

pub returns-in-Some : goal.returns-in-Some
returns-in-Some c = c.take_after_name.ensures
    (subst (λ found. Begins found (Terminal.Name c.in-Some.name.now) c.next_name.new.tokens) c.again-left.ensures
    c.in-Some.ensures.next)
