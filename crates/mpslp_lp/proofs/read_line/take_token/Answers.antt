use Rattle.mpslp_lp.proofs.Prelude.{sym, subst, ◌∷◌, Err, token_of, terminal_of_token, step, take_tokens, TakesToken}
use Rattle.mpslp_lp.proofs.PlainPhrases.{tokens-refused}
use Rattle.mpslp_lp.proofs.read_line.take_token.Goals as goal

pub returns-in-Err-step : goal.returns-in-Err-step
returns-in-Err-step c = let context = c.args.context.now in
    let after = c.step.new.context in
    let state = c.args.state.now in
    let raw_token = token_of c.args.raw_token in
    let more = c.args.left in
    let error = c.in-Err-step.error in
    subst (λ stated. TakesToken (take_tokens context state (raw_token ∷ more)) (Err stated) after)
    (sym c.error_before.ensures) (tokens-refused context after state raw_token more _ c.in-Ok.ensures.0
    (subst (λ terminal. TakesToken (step context state terminal) (Err error) after) c.in-Ok.ensures.1
    (subst (λ taken. TakesToken (step context taken
    (terminal_of_token (record { kind = c.in-Ok.kind; text = c.args.raw_token.text }))) (Err error) after)
    c.replace.ensures.value c.in-Err-step.ensures)))
