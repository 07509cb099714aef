use Rattle.mpslp_lp.proofs.Prelude.{ap, subst, arith, RowLabel, take_tokens, TakesSome}
use Rattle.mpslp_lp.proofs.plain_row_starts.take_labelled_term.Goals as goal

pub returns-in-Some : goal.returns-in-Some
returns-in-Some c =
    let context = c.args.context.now in
    let after = c.take_first_term.new.context in
    let next = c.take_first_term.new.state in
    let result = c.take_first_term.result in
    subst (λ found. TakesSome context (RowLabel c.args.name) found result after next) c.again-left.ensures
    (c.take_first_term.ensures c.again-left.result c.in-Some.ensures.term)

pub returns-in-None : goal.returns-in-None
returns-in-None c =
    let context = c.args.context.now in
    let tokens = c.args.tokens in
    (ap (λ next. take_tokens context next tokens) c.set_state.ensures, omega arith)
