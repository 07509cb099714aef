use Rattle.mpslp_lp_grammar.proofs.Prelude.{sym, subst, List, BuildFault, Draft, LineResult, terminal_of_token, step_after_declarations}
use Rattle.mpslp_lp_grammar.proofs.Prelude.{with_made, begin, DeclaresUnless, TakesToken}
use Rattle.mpslp_lp_grammar.proofs.first_token.begin_phrase_after.Goals as goal

pub returns-in-Ok : goal.returns-in-Ok
returns-in-Ok c = λ earlier refusals made declared.
    let context = c.args.context.now in
    let terminal = terminal_of_token c.args.token.now in
    let fine = subst (λ (answer : LineResult). DeclaresUnless refusals earlier made answer context.builder) c.in-Ok.is declared in
    subst (λ (faults : List BuildFault). TakesToken
    (step_after_declarations (record context { builder = earlier }) terminal faults made
    (begin c.args.place (with_made (record context { builder = earlier }) made) terminal)) c.begin.result c.begin.new.context)
    (sym fine.0)
    (subst (λ (draft : Draft). TakesToken (begin c.args.place (record context { builder = draft }) terminal) c.begin.result
    c.begin.new.context) fine.1 c.begin.ensures)
