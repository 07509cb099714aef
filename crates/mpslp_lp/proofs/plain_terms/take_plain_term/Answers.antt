use Rattle.std.{proofs.Common.{◌∙◌, sym, subst, ap}, specs.Prelude.{Ok, Err, None}}
use Rattle.mpslp_lines.specs.FaultTests.{value_of}
use Rattle.mpslp_lp_grammar.specs.{AfterToken.{end_term}, Declares.{AddsTerm, TakesToken}, Rows.{without_terms}, Items.{apply_sign}}
use Rattle.mpslp_lp_grammar.specs.{Terminal.Terminal.{Name}, declared.states.{ItemOwner.TheVariants.{OfRow}, Place.TheVariants.{InRow}}}
use Rattle.mpslp_lp_grammar.{specs.declared.states.State.TheVariants.{Between, RowLabel}, proofs.NumberFaults.{tested-number}}
use Rattle.mpslp_lp.specs.LineByLine.{take_tokens}
use Rattle.mpslp_lp.proofs.PlainPhrases.{plain-goes, plain-refused, plain-number, in-row, after-label, row-taken, row-refused}
use Rattle.mpslp_lp.proofs.plain_terms.take_plain_term.Goals as goal

pub returns-in-Err-clause-later : goal.returns-in-Err-clause-later
returns-in-Err-clause-later c = λ found p. let context = c.args.context.now in
    let row = c.args.row.now in
    let term = c.args.term in
    let column = term.column.now in plain-number _ _ (λ value. end_term context (OfRow row) column value (Name column))
    _ _ _ _ _ p (in-row _ _ _ _) _ _ _ (sym (tested-number term.literal.now) ∙ c.in-Err.ensures) c.least_error.ensures

pub returns-in-Err-clause-first : goal.returns-in-Err-clause-first
returns-in-Err-clause-first c = λ found name p empty. let context = c.args.context.now in
    let term = c.args.term in
    let column = term.column.now in plain-number _ _ (λ value. end_term context (OfRow (without_terms name None)) column value
    (Name column)) _ _ _ _ _ p (after-label _ _ _ _) _ _ _ (sym (tested-number term.literal.now) ∙ c.in-Err.ensures)
    c.least_error.ensures

pub returns-in-Ok-add_term-clause-later : goal.returns-in-Ok-add_term-clause-later
returns-in-Ok-add_term-clause-later c = λ found p. let context = c.args.context.now in
    let row = c.args.row.now in
    let term = c.args.term in
    let column = term.column.now in
    let longer = c.add_term.new.self in
    let given = c.of-value.ensures ∙ ap (apply_sign term.sign) c.in-Ok.ensures.1 in plain-goes _ _ (λ value. end_term context
    (OfRow row) column value (Name column)) _ _ _ _ _ p (in-row _ _ _ _) _ _ (sym (tested-number term.literal.now)
    ∙ c.in-Ok.ensures.0) (row-taken _ _ _ _ _
    (subst (λ value. AddsTerm row column value (Ok longer)) given c.in-Ok-add_term.ensures))

pub returns-in-Ok-add_term-clause-first : goal.returns-in-Ok-add_term-clause-first
returns-in-Ok-add_term-clause-first c = λ found name p empty. let context = c.args.context.now in
    let row = c.args.row.now in
    let term = c.args.term in
    let column = term.column.now in
    let longer = c.add_term.new.self in
    let given = c.of-value.ensures ∙ ap (apply_sign term.sign) c.in-Ok.ensures.1 in
    plain-goes _ _ (λ value. end_term context (OfRow (without_terms name None)) column value (Name column)) _ _ _ _ _ p
    (after-label _ _ _ _) _ _ (sym (tested-number term.literal.now) ∙ c.in-Ok.ensures.0)
    (row-taken _ (without_terms name None) _ column (apply_sign term.sign (value_of term.literal.now))
    (subst (λ r. AddsTerm r column (apply_sign term.sign (value_of term.literal.now)) (Ok longer)) empty
    (subst (λ value. AddsTerm row column value (Ok longer)) given c.in-Ok-add_term.ensures)))

pub returns-in-Err-add_term-clause-later : goal.returns-in-Err-add_term-clause-later
returns-in-Err-add_term-clause-later c = λ found p. let context = c.args.context.now in
    let row = c.args.row.now in
    let term = c.args.term in
    let column = term.column.now in
    let error = c.in-Err-add_term.error in
    let given = c.of-value.ensures ∙ ap (apply_sign term.sign) c.in-Ok.ensures.1 in
    subst (λ stated. TakesToken (take_tokens context (Between (InRow row)) found) (Err stated) context)
    (sym c.error_before.ensures) (plain-refused _ _ (λ value. end_term context (OfRow row) column value (Name column))
    _ _ _ _ _ p (in-row _ _ _ _) _ _ (sym (tested-number term.literal.now) ∙ c.in-Ok.ensures.0)
    (row-refused context row column (apply_sign term.sign (value_of term.literal.now)) _
    (subst (λ value. AddsTerm row column value (Err error)) given c.in-Err-add_term.ensures)))

pub returns-in-Err-add_term-clause-first : goal.returns-in-Err-add_term-clause-first
returns-in-Err-add_term-clause-first c = λ found name p empty. let context = c.args.context.now in
    let row = c.args.row.now in
    let term = c.args.term in
    let column = term.column.now in
    let error = c.in-Err-add_term.error in
    let given = c.of-value.ensures ∙ ap (apply_sign term.sign) c.in-Ok.ensures.1 in
    subst (λ stated. TakesToken (take_tokens context (RowLabel name) found) (Err stated) context) (sym c.error_before.ensures)
    (plain-refused _ _ (λ value. end_term context (OfRow (without_terms name None)) column value (Name column)) _ _ _ _
    _ p (after-label _ _ _ _) _ _ (sym (tested-number term.literal.now) ∙ c.in-Ok.ensures.0)
    (row-refused context (without_terms name None) column (apply_sign term.sign (value_of term.literal.now)) _
    (subst (λ r. AddsTerm r column (apply_sign term.sign (value_of term.literal.now)) (Err error)) empty
    (subst (λ value. AddsTerm row column value (Err error)) given c.in-Err-add_term.ensures))))
