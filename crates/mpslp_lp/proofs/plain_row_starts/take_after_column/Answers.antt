use Rattle.mpslp_lp.proofs.Prelude.{sym, subst, refl, Sign, terminal_of_token, terminal_with_text, Begins, TakesSome}
use Rattle.mpslp_lp.proofs.PlainPhrases.{some-after-one}
use Rattle.mpslp_lp.proofs.plain_row_starts.take_after_column.Goals as goal

pub returns-in-Sign : goal.returns-in-Sign
returns-in-Sign c = λ begins between. let context = c.args.context.now in
    let after = c.take_column.new.context in
    let next = c.take_column.new.state in
    let result = c.take_column.result in
    let tokens = c.args.tokens in
    let rest = c.next_terminal.new.tokens in
    let name = c.args.name.now in
    let second = c.in-Some.second in
    let sign = subst (λ kind. Begins c.args.left (terminal_with_text kind second.text.now) rest) c.in-Sign.is
    (subst (λ found. Begins found (terminal_of_token second) rest) c.again-after.ensures c.in-Some.ensures.next) in
    subst (λ start. TakesSome context start tokens result after next) (sym between)
    (some-after-one _ _ _ _ _ _ _ _ _ begins refl (c.take_column.ensures (Sign c.in-Sign.field-0) rest sign refl))

pub returns-in-Some-right_side_after : goal.returns-in-Some-right_side_after
returns-in-Some-right_side_after c = λ begins between. let context = c.args.context.now in
    let after = c.take_row_of_column.new.context in
    let result = c.take_row_of_column.result in
    let tokens = c.args.tokens in
    let rest = c.next_terminal.new.tokens in
    let name = c.args.name.now in
    let second = c.in-Some.second in
    let compares = subst (λ kind. Begins c.args.left (terminal_with_text kind second.text.now) rest) c.in-Compares.is
    (subst (λ found. Begins found (terminal_of_token second) rest) c.again-after.ensures c.in-Some.ensures.next) in
    subst (λ state. TakesSome context state tokens result after state) (sym between) (some-after-one _ _ _ _ _ _ _ _ _ begins refl
    (c.take_row_of_column.ensures c.args.left (c.in-Some-right_side_after.ensures _ compares)))
