use Rattle.mpslp_lp.proofs.Prelude.{sym, subst, ap, ◌∙◌, BetweenRows, InRow, Between, TakesSome}
use Rattle.mpslp_lp.proofs.plain_rows.take_right_side.Goals as goal

pub returns-then-fits_left : goal.returns-then-fits_left
returns-then-fits_left c = let context = c.args.context.now in
    let after = c.end_plain_row.new.context in
    let row = c.in-Between-InRow.row in
    let result = c.end_plain_row.result in
    let reached = sym (c.in-Between-InRow.is ∙ ap (λ place. Between place) c.in-Between-InRow.field-0-is)
    ∙ c.replace.ensures.value in subst (λ next. TakesSome context c.args.state.now c.args.tokens result after next)
    (sym c.replace.ensures.after) (subst
    (λ start. TakesSome context start c.args.tokens result after (Between BetweenRows)) reached
    (subst (λ found. TakesSome context (Between (InRow row)) found result after (Between BetweenRows))
    c.again-left.ensures (c.end_plain_row.ensures c.again-left.result c.in-Some.ensures)))
