use Rattle.mpslp_lp.proofs.Prelude.{sym, subst, Terminal, Begins, TakesSome}
use Rattle.mpslp_lp.proofs.PlainPhrases.{label-taken, some-after}
use Rattle.mpslp_lp.proofs.plain_row_starts.take_after_name.Goals as goal

pub returns-then-takes_colon : goal.returns-then-takes_colon
returns-then-takes_colon c = λ begins between. let context = c.args.context.now in
    let after = c.take_after_label.new.context in
    let next = c.take_after_label.new.state in
    let result = c.take_after_label.result in
    let tokens = c.args.tokens in
    let rest = c.takes_colon.new.tokens in
    let colon = subst (λ found. Begins found Terminal.Colon rest) c.again-after.ensures
    (c.takes_colon.ensures c.if-takes_colon.true) in
    let label = label-taken _ _ _ _ _ begins colon in subst (λ start. TakesSome context start tokens result after next)
    (sym between) (some-after _ _ _ _ _ _ _ _ _ label.0 label.1 c.take_after_label.ensures)
