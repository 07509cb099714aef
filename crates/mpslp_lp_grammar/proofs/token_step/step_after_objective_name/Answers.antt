use Rattle.mpslp_lp_grammar.proofs.Prelude.{sym, subst, ℕ, List, refusals_in_turn, first_item_declared, terminal_of_token, AfterToken}
use Rattle.mpslp_lp_grammar.proofs.{Prelude.{begin_phrase_after, Declares, TakesToken, InObjective}, OtherTokens.{objective_name-other}}
use Rattle.mpslp_lp_grammar.proofs.token_step.step_after_objective_name.Goals as goal

pub returns-in_ok-objective-in_default : goal.returns-in_ok-objective-in_default
returns-in_ok-objective-in_default c =
    let context = c.args.context.now in
    let token = c.args.token.now in
    let made = first_item_declared c.args.sense c.args.name in
    let declared =
    subst (λ (name : List ℕ). Declares context.builder (first_item_declared c.args.sense name) c.declare_first_item-answer.result
    c.declare_first_item-answer.new.self)
    c.as_bytes.ensures c.declare_first_item-answer.ensures in
    subst (λ (taken : AfterToken). TakesToken taken c.begin_phrase_after.result c.begin_phrase_after.new.context)
    (sym (objective_name-other context c.args.sense c.args.name token.kind token.text.now c.in_default.not-Colon))
    (subst (λ (name : List ℕ). TakesToken (begin_phrase_after context made (InObjective name) (terminal_of_token token))
    c.begin_phrase_after.result c.begin_phrase_after.new.context) c.in_ok-objective-in_default.ensures
    (c.begin_phrase_after.ensures context.builder (refusals_in_turn context.builder made) made declared))
