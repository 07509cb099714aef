use Rattle.mpslp_lp.proofs.{Prelude.{BetweenRows, InRow, Between}, PlainPhrases.{phrase-goes, phrase-refused, right-last, row-compared}}
use Rattle.mpslp_lp.proofs.plain_rows.end_plain_row.Goals as goal

pub returns-in-Ok : goal.returns-in-Ok
returns-in-Ok c = λ found begins. let context = c.args.context.now in
    let row = c.args.row in
    let right = c.args.right.now in
    let start = Between (InRow row) in phrase-goes _ _ _ _ _
    (right-last _ _ _ _ _ _ _ (row-compared _ _ _ c.requires) begins) _ _ (λ terminal unopened. c.in-Ok.ensures terminal unopened)

pub returns-in-Err : goal.returns-in-Err
returns-in-Err c = λ found begins. let context = c.args.context.now in
    let row = c.args.row in
    let right = c.args.right.now in
    let start = Between (InRow row) in
    phrase-refused context start found c.args.left _ (right-last _ _ _ _ _ _ _ (row-compared _ _ _ c.requires) begins)
    c.declare_row.new.context (Between BetweenRows) _ _ (λ terminal unopened. c.in-Err.ensures terminal unopened)
    c.error_before.ensures
