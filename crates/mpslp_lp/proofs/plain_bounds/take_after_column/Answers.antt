use Rattle.mpslp_lp.proofs.Prelude.{sym, subst, refl, Ok, Err, terminal_with_text, InBounds, Between, BoundName, Begins, TakesSome}
use Rattle.mpslp_lp.proofs.PlainPhrases.{phrase-goes, phrase-refused, free-last, some-after-one}
use Rattle.mpslp_lp.proofs.plain_bounds.take_after_column.Goals as goal

pub returns-in-Ok : goal.returns-in-Ok
returns-in-Ok c = λ before is name. let context = c.args.context.now in
    let after = c.declare_free.new.context in
    let tokens = c.args.tokens in
    let rest = c.next_terminal.new.tokens in
    let second = c.in-Some.second in
    let free = subst (λ kind. Begins c.args.left (terminal_with_text kind second.text.now) rest) c.in-Free.is
    c.in-Some.ensures.next in
    subst (λ start. TakesSome context start tokens (Ok rest) after c.set_state.new.state)
    (sym is) (subst (λ next. TakesSome context (Between (InBounds before)) tokens (Ok rest) after next)
    (sym c.set_state.ensures) (phrase-goes _ _ _ _ _ (free-last _ _ _ _ _ _ name free) _ _
    (λ terminal unopened. c.in-Ok.ensures)))

pub returns-in-Err : goal.returns-in-Err
returns-in-Err c = λ before is name. let context = c.args.context.now in
    let after = c.declare_free.new.context in
    let tokens = c.args.tokens in
    let rest = c.next_terminal.new.tokens in
    let second = c.in-Some.second in
    let free = subst (λ kind. Begins c.args.left (terminal_with_text kind second.text.now) rest) c.in-Free.is
    c.in-Some.ensures.next in
    subst (λ start. TakesSome context start tokens (Err c.error_before.result) after c.args.state.now)
    (sym is) (phrase-refused context (Between (InBounds before)) tokens rest _
    (free-last _ _ _ _ _ _ name free) _ c.args.state.now _ _ (λ terminal unopened. c.in-Err.ensures) c.error_before.ensures)

pub returns-in-Some-right_side_after : goal.returns-in-Some-right_side_after
returns-in-Some-right_side_after c = λ before is name. let context = c.args.context.now in
    let column = c.args.column.now in
    let relation = c.in-Compares.relation in
    let compares = subst (λ kind. Begins c.args.left (terminal_with_text kind c.in-Some.second.text.now)
    c.next_terminal.new.tokens) c.in-Compares.is c.in-Some.ensures.next in
    subst (λ start. TakesSome context start c.args.tokens c.take_right_side.result c.take_right_side.new.context
    c.take_right_side.new.state) (sym is)
    (some-after-one _ _ _ _ _ _ _ _ _ name refl
    (c.take_right_side.ensures (BoundName column) c.args.left refl
    (c.in-Some-right_side_after.ensures _ compares)))
