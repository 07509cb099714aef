use Rattle.mpslp_lp.proofs.{Prelude.{sym, subst, default_row, BetweenRows, Between, RowLabel, TakesSome}, PlainPhrases.{same-first}}
use Rattle.mpslp_lp.proofs.PlainPhrases.{same-start}
use Rattle.mpslp_lp.proofs.plain_row_starts.take_unlabelled_term.Goals as goal

pub returns : goal.returns
returns c = λ same begins between. let context = c.args.context.now in
    let after = c.take_first_term.new.context in
    let next = c.take_first_term.new.state in
    let result = c.take_first_term.result in
    let tokens = c.args.tokens in
    let unlabelled = RowLabel (default_row context) in
    subst (λ start. TakesSome context start tokens result after next) (sym between) (same-start context after
    (Between BetweenRows) unlabelled next tokens _ (same-first context (Between BetweenRows) unlabelled _ _ _ begins same)
    (subst (λ name. TakesSome context (RowLabel name) tokens result after next) c.in_ok-name.ensures
    (c.take_first_term.ensures tokens (c.in-Some.ensures.term _ begins))))
