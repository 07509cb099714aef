use Rattle.mpslp_lp.proofs.Prelude.{subst, terminal_with_text, terminal_of_token, Begins}
use Rattle.mpslp_lp.proofs.plain_bounds.take_bound.Goals as goal

pub returns-in-Name : goal.returns-in-Name
returns-in-Name c = λ before is. let first = c.in-Some.first in
    let rest = c.next_terminal.new.tokens in
    c.take_after_column.ensures before is
    (subst (λ kind. Begins c.args.tokens (terminal_with_text kind first.text.now) rest) c.in-Name.is
    (subst (λ found. Begins found (terminal_of_token first) rest) c.again-left.ensures c.in-Some.ensures.next))

pub returns-in-Some-limit_from : goal.returns-in-Some-limit_from
returns-in-Some-limit_from c = λ before is. let first = c.in-Some.first in
    c.take_after_limit.ensures before is (c.in-Some-limit_from.ensures _
    (subst (λ found. Begins found (terminal_of_token first) c.next_terminal.new.tokens) c.again-left.ensures
    c.in-Some.ensures.next))
