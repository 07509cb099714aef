use Rattle.mpslp_lp.proofs.{Prelude.{subst, Some, InBounds, Between, TakesSome}, PlainPhrases.{bound-compared}}
use Rattle.mpslp_lp.proofs.plain_bounds.take_second_side.Goals as goal

pub returns-in-Some : goal.returns-in-Some
returns-in-Some c =
    let context = c.args.context.now in
    let column = c.args.column.now in
    let relation = c.args.relation in
    let right = c.in-Some.right in
    let start = Between (InBounds (Some (column, relation))) in subst (λ found.
    TakesSome context start found c.take_right_side.result c.take_right_side.new.context c.take_right_side.new.state)
    c.again-left.ensures (c.take_right_side.ensures start c.again-left.result
    (bound-compared _ _ _ _ c.in-Some.ensures.agrees) c.in-Some.ensures.begins)
