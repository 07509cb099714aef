use Rattle.mpslp_lp_grammar.proofs.Prelude.{sym, subst, ℕ, List, refusals_in_turn, default_objective, objective_declared, terminal_of_token}
use Rattle.mpslp_lp_grammar.proofs.Prelude.{AfterToken, begin_phrase_after, Declares, TakesToken, BeforeItems}
use Rattle.mpslp_lp_grammar.proofs.OtherTokens.{objective-other}
use Rattle.mpslp_lp_grammar.proofs.token_step.step_at_objective.Goals as goal

pub returns-in_ok-objective-in_default : goal.returns-in_ok-objective-in_default
returns-in_ok-objective-in_default c =
    let context = c.args.context.now in
    let token = c.args.token.now in
    let made = objective_declared c.args.sense default_objective in
    let declared =
    subst (λ (name : List ℕ). Declares context.builder (objective_declared c.args.sense name) c.declare_objective-answer.result
    c.declare_objective-answer.new.self)
    c.in_ok-name-in_default.ensures c.declare_objective-answer.ensures in
    subst (λ (taken : AfterToken). TakesToken taken c.begin_phrase_after.result c.begin_phrase_after.new.context)
    (sym (objective-other context c.args.sense token.kind token.text.now c.in_default.not-Name))
    (subst (λ (name : List ℕ). TakesToken (begin_phrase_after context made (BeforeItems name) (terminal_of_token token))
    c.begin_phrase_after.result c.begin_phrase_after.new.context) c.in_ok-objective-in_default.ensures
    (c.begin_phrase_after.ensures context.builder (refusals_in_turn context.builder made) made declared))
