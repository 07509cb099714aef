use Rattle.mpslp_lp_grammar.proofs.Prelude.{refl, sym, subst, ap, ◌∙◌, ℕ, List, [], ◌∷◌, Some, declare_column, Terminal, limits_by, flip}
use Rattle.mpslp_lp_grammar.proofs.Prelude.{end_bound, TokenResult, TakesToken, answer_at, Relation, InBounds}
use Rattle.mpslp_lp_grammar.proofs.bounds.step_after_bound_column.Goals as goal

pub returns : goal.returns
returns c =
    let context = c.args.context.now in
    let after = c.declare_bound-answer.new.context in
    let answer = c.declare_bound-answer.result in
    let column = c.args.column.now in
    let relation = c.args.relation in
    let limit = c.args.limit.now in
    let place = InBounds (Some (column, relation)) in
    subst (λ (r : TokenResult). TakesToken
    (end_bound context (declare_column column ∷ []) column (limits_by (flip relation) limit) (Terminal.Name column)
    place) r after) (sym (c.at_place.ensures
    ∙ ap (λ (name : List ℕ). answer_at (InBounds (Some (name, relation))) answer) c.in_ok-name.ensures))
    (subst (λ (r : Relation). TakesToken
    (end_bound context (declare_column column ∷ []) column (limits_by r limit) (Terminal.Name column) place)
    (answer_at place answer) after)
    c.flip.ensures (c.declare_bound-answer.ensures (Terminal.Name column) place refl))
