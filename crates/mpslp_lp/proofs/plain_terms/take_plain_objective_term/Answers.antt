use Rattle.std.{proofs.Common.{◌≡◌, ◌∙◌, sym, subst, ap}, specs.Prelude.Err}
use Rattle.mpslp_lp_grammar.specs.{AfterToken.{end_term, Goes}, Declares.TakesToken, Items.apply_sign, Terminal.Terminal.Name}
use Rattle.mpslp_lp_grammar.specs.declared.states.{ItemOwner.TheVariants.OfObjective, Place.TheVariants.InObjective}
use Rattle.mpslp_lp_grammar.{specs.declared.states.State.TheVariants.Between, proofs.NumberFaults.tested-number}
use Rattle.mpslp_lp.{specs.LineByLine.take_tokens, proofs.PlainPhrases.{plain-goes, plain-refused, plain-number, in-objective}}
use Rattle.mpslp_lp.proofs.plain_terms.take_plain_objective_term.Goals as goal

pub returns-in-Err : goal.returns-in-Err
returns-in-Err c = λ found p. let context = c.args.context.now in
    let objective = c.args.objective.now in
    let term = c.args.term in
    let column = term.column.now in
    plain-number _ _ (λ value. end_term context (OfObjective objective) column value (Name column))
    _ _ _ _ _ p (in-objective _ _ _ _) _ _ _ (sym (tested-number term.literal.now) ∙ c.in-Err.ensures) c.least_error.ensures

pub returns-in-Ok-declare_objective_term : goal.returns-in-Ok-declare_objective_term
returns-in-Ok-declare_objective_term c = λ found p. let context = c.args.context.now in
    let after = c.declare_objective_term.new.context in
    let objective = c.args.objective.now in
    let term = c.args.term in
    let column = term.column.now in
    let given = c.of-value.ensures ∙ ap (apply_sign term.sign) c.in-Ok.ensures.1 in
    plain-goes _ _ (λ value. end_term context (OfObjective objective) column value (Name column)) _ _ _ _ _ p
    (in-objective _ _ _ _) _ _ (sym (tested-number term.literal.now) ∙ c.in-Ok.ensures.0)
    (subst (λ value. end_term context (OfObjective objective) column value (Name column) ≡ Goes after
    (Between (InObjective objective))) given c.in-Ok-declare_objective_term.ensures)

pub returns-in-Err-declare_objective_term : goal.returns-in-Err-declare_objective_term
returns-in-Err-declare_objective_term c = λ found p. let context = c.args.context.now in
    let after = c.declare_objective_term.new.context in
    let objective = c.args.objective.now in
    let term = c.args.term in
    let column = term.column.now in
    let error = c.in-Err-declare_objective_term.error in
    let given = c.of-value.ensures ∙ ap (apply_sign term.sign) c.in-Ok.ensures.1 in
    subst (λ stated. TakesToken (take_tokens context (Between (InObjective objective)) found) (Err stated) after)
    (sym c.error_before.ensures) (plain-refused _ _
    (λ value. end_term context (OfObjective objective) column value (Name column)) _ _ _ _ _ p
    (in-objective _ _ _ _) _ _ (sym (tested-number term.literal.now) ∙ c.in-Ok.ensures.0)
    (subst (λ value. TakesToken (end_term context (OfObjective objective) column value (Name column))
    (Err error) after) given c.in-Err-declare_objective_term.ensures))
