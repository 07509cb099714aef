use Rattle.mpslp_lp.proofs.{Prelude.{ap, ◌∙◌, arith, Some, InBounds, Between, take_tokens}}
use Rattle.mpslp_lp.proofs.plain_bounds.take_no_second_side.Goals as goal

pub returns : goal.returns
returns c =
    let context = c.args.context.now in
    let tokens = c.args.tokens in (
      ap (λ next. take_tokens context next tokens) c.set_state.ensures
          ∙ ap (λ name. take_tokens context (Between (InBounds (Some (name, c.args.relation)))) tokens) c.in_ok-name.ensures,
      omega arith,
    )
