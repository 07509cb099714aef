use Rattle.mpslp_lp.proofs.Prelude.{sym, subst, [], ◌∷◌, Some, Ok, Err, declare_column, limits_by, end_bound, TakesToken, InBounds}
use Rattle.mpslp_lp.proofs.{Prelude.{Between, TakesSome}, PlainPhrases.{phrase-goes, phrase-refused, left-last, some-after}}
use Rattle.mpslp_lp.proofs.plain_bounds.take_after_limit.Goals as goal

pub returns-in-Ok : goal.returns-in-Ok
returns-in-Ok c = λ before is side. let context = c.args.context.now in
    let after = c.declare_bound.new.context in
    let tokens = c.args.tokens in
    let relation = c.in-Some.relation in
    let column = c.in-Some-next_name.column.now in
    let limit = c.args.limit.now in
    let place = InBounds (Some (column, relation)) in
    let rest = c.next_name.new.tokens in
    let same = phrase-goes context (Between (InBounds before)) tokens rest _
    (left-last _ _ _ _ _ _ _ _ _ side c.in-Some.ensures c.in-Some-next_name.ensures.next) _ _ (λ terminal unopened. subst
    (λ r. TakesToken (end_bound context (declare_column column ∷ []) column (limits_by r limit) terminal place)
    (Ok (Between place)) after) c.flip.ensures (c.in-Ok.ensures _ _ unopened)) in
    subst (λ start. TakesSome context start tokens c.take_second_side.result c.take_second_side.new.context
    c.take_second_side.new.state) (sym is) (some-after context after c.take_second_side.new.context
    (Between (InBounds before)) (Between place) c.take_second_side.new.state tokens rest _ same.0 same.1
    c.take_second_side.ensures)

pub returns-in-Err : goal.returns-in-Err
returns-in-Err c = λ before is side. let context = c.args.context.now in
    let after = c.declare_bound.new.context in
    let tokens = c.args.tokens in
    let relation = c.in-Some.relation in
    let column = c.in-Some-next_name.column.now in
    let limit = c.args.limit.now in
    let place = InBounds (Some (column, relation)) in
    let rest = c.next_name.new.tokens in
    subst (λ start. TakesSome context start tokens (Err c.error_before.result) after c.args.state.now) (sym is)
    (phrase-refused context (Between (InBounds before)) tokens rest _
    (left-last _ _ _ _ _ _ _ _ _ side c.in-Some.ensures c.in-Some-next_name.ensures.next) _ c.args.state.now _ _
    (λ terminal unopened. subst (λ r. TakesToken (end_bound context (declare_column column ∷ []) column
    (limits_by r limit) terminal place) (Err c.in-Err.error) after) c.flip.ensures (c.in-Err.ensures _ _ unopened))
    c.error_before.ensures)
