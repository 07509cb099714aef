use Rattle.mpslp_lp.proofs.{Prelude.{◌≡◌, ◌∙◌, subst, ap, MatchResult, OutOfMemory, one, row_of_term}, PlainPhrases.{row-and-context}}
use Rattle.mpslp_lp.proofs.plain_row_starts.row_of_column.Goals as goal

pub returns : goal.returns
returns c =
    let context = c.args.context.now in
    let column = c.args.column.now in
    let result = c.row_of_term.result in
    let same = ap (λ value. row_of_term c.in_ok-name.name column value) c.one.ensures ∙ ap (λ name. row_of_term name column one)
    c.in_ok-name.ensures in row-and-context _ _ _ _ c.row_of_term.ensures.same
    (subst (λ row. MatchResult result (λ made. made ≡ row) (λ error. error ≡ OutOfMemory)) same c.row_of_term.ensures.row)
