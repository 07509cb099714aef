use Rattle.mpslp_lp.proofs.Prelude.{sym, subst, refl, IsTrue, one, default_row, fits_left, BetweenRows, InRow, Between, RowName, TakesSome}
use Rattle.mpslp_lp.proofs.{Prelude.{row_of_term}, PlainPhrases.{same-first, same-start}}
use Rattle.mpslp_lp.proofs.plain_row_starts.take_row_of_column.Goals as goal

-- a row without a left-hand side
pub end_plain_row-requires : goal.end_plain_row-requires
end_plain_row-requires c = subst (λ row. IsTrue (fits_left row.left c.args.right.now.relation)) (sym c.in_ok-row.ensures.0) refl

pub returns : goal.returns
returns c = λ found begins. let context = c.args.context.now in
    let after = c.end_plain_row.new.context in
    let column = c.args.column.now in
    let result = c.end_plain_row.result in
    let row = row_of_term (default_row context) column one in
    let made = c.in_ok-row.ensures in same-start context after (RowName column) (Between (InRow row))
    (Between BetweenRows) found _ (same-first context (RowName column) (Between (InRow row)) _ _ _ begins.compares refl)
    (subst (λ it. TakesSome context (Between (InRow it)) found result after (Between BetweenRows)) made.0
    (subst (λ it. TakesSome it (Between (InRow c.in_ok-row.row)) found result after (Between BetweenRows)) made.1
    (c.end_plain_row.ensures found begins)))
