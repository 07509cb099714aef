use Rattle.mpslp_lp.proofs.{Prelude.{sym, subst, None, Ok, InBounds, SideOfBound, TakesSome}, PlainPhrases.{phrase-goes, phrase-refused}}
use Rattle.mpslp_lp.proofs.PlainPhrases.{right-last}
use Rattle.mpslp_lp.proofs.plain_bounds.take_right_side.Goals as goal

pub returns-in-Ok : goal.returns-in-Ok
returns-in-Ok c = λ start found goes begins. let context = c.args.context.now in
    let after = c.declare_bound.new.context in
    let right = c.args.right.now in
    let sided = SideOfBound c.args.is_new c.args.column.now right.relation in
    subst (λ next. TakesSome context start found (Ok c.args.left) after next) (sym c.set_state.ensures)
    (phrase-goes _ _ _ _ _ (right-last _ _ _ _ _ _ _ goes begins) _ _ (λ terminal unopened. c.in-Ok.ensures terminal _ unopened))

pub returns-in-Err : goal.returns-in-Err
returns-in-Err c = λ start found goes begins. let context = c.args.context.now in
    let right = c.args.right.now in
    let sided = SideOfBound c.args.is_new c.args.column.now right.relation in
    phrase-refused context start found c.args.left _ (right-last _ _ _ _ _ _ _ goes begins) c.declare_bound.new.context
    c.args.state.now _ _ (λ terminal unopened. c.in-Err.ensures terminal (InBounds None) unopened) c.error_before.ensures
