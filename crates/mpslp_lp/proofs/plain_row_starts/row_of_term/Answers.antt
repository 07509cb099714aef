use Rattle.mpslp_lp.proofs.{Prelude.{subst, AddsTerm}, PlainPhrases.{only-term}}
use Rattle.mpslp_lp.proofs.plain_row_starts.row_of_term.Goals as goal

pub returns-clause-row : goal.returns-clause-row
returns-clause-row c =
    only-term _ _ _ _
    (subst (λ row. AddsTerm row c.args.column.now c.args.value c.with_term.result) c.in_ok-row.ensures.row c.with_term.ensures)
