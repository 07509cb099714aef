use Rattle.std.proofs.Common.{sym, subst, ◌∙◌}
use Rattle.mpslp_lp_grammar.specs.declared.states.State.TheVariants.{RowLabel}
use Rattle.mpslp_lp.specs.PlainPhrase.{TakesSome}
use Rattle.mpslp_lp.proofs.plain_terms.take_terms_after_label.Goals as goal

pub returns-in-RowLabel : goal.returns-in-RowLabel
returns-in-RowLabel c = let context = c.args.context.now in
    let after = c.take_first_terms.new.context in
    let next = c.take_first_terms.new.state in
    let result = c.take_first_terms.result in
    subst (λ start. TakesSome context start c.args.tokens result after next) (sym c.in-RowLabel.is ∙ c.replace.ensures.value)
    (subst (λ found. TakesSome context (RowLabel c.in-RowLabel.name) found result after next) c.again-after_term.ensures
    (c.take_first_terms.ensures c.again-after_term.result c.in-Some.ensures))
