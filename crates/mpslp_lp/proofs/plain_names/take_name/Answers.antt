use Rattle.mpslp_lp.proofs.{Prelude.{listed_at, Between}, PlainPhrases.{phrase-goes, phrase-refused, name-last}}
use Rattle.mpslp_lp.proofs.plain_names.take_name.Goals as goal

pub returns-in-Ok : goal.returns-in-Ok
returns-in-Ok c = λ found begins. let context = c.args.context.now in
    let listed = Between (listed_at c.args.section) in
    (phrase-goes _ _ _ _ _ (name-last _ _ _ _ _ begins) _ _ (λ terminal unopened. c.in-Ok.ensures)).0

pub returns-in-Err : goal.returns-in-Err
returns-in-Err c = λ found begins. let context = c.args.context.now in
    let listed = Between (listed_at c.args.section) in phrase-refused context listed found c.args.left _
    (name-last _ _ _ _ _ begins) _ listed _ _ (λ terminal unopened. c.in-Err.ensures) c.error_before.ensures
