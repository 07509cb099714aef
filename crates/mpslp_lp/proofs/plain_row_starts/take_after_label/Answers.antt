use Rattle.mpslp_lp.proofs.Prelude.{ap, ◌∙◌, subst, arith, RowLabel, take_tokens, TakesSome}
use Rattle.mpslp_lp.proofs.plain_row_starts.take_after_label.Goals as goal

pub returns-then-is_empty : goal.returns-then-is_empty
returns-then-is_empty c =
    let context = c.args.context.now in
    let tokens = c.args.tokens in (
      ap (λ next. take_tokens context next tokens) c.set_state.ensures
          ∙ ap (λ name. take_tokens context (RowLabel name) tokens) c.in_ok-name.ensures,
      omega arith,
    )

pub returns : goal.returns
returns c =
    let context = c.args.context.now in
    let after = c.take_labelled_term.new.context in
    let next = c.take_labelled_term.new.state in
    let result = c.take_labelled_term.result in
    subst (λ name. TakesSome context (RowLabel name) c.args.tokens result after next) c.in_ok-name.ensures
    c.take_labelled_term.ensures
