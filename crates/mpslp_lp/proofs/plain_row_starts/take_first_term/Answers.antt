use Rattle.mpslp_lp.proofs.{Prelude.{rules, ◌≡◌, ◌∙◌, ap, InRow, Between, take_tokens, row_of_term}, PlainPhrases.{first-taken}}
use Rattle.mpslp_lp.proofs.plain_row_starts.take_first_term.Goals as goal

pub returns : goal.returns
returns c = λ found begins. let context = c.args.context.now in
    let after = c.row_of_term.new.context in
    let left = c.args.left in
    let term = c.args.term in
    let the_row = row_of_term c.args.name term.column.now term.value in
    let row : c.in_ok-row.row ≡ the_row = search rules in
    let same : after ≡ context = search rules in
    let taken = first-taken _ _ _ _ _ _ begins in (
      ap (λ state. take_tokens after state left) c.set_state.ensures
          ∙ ap (λ made. take_tokens after (Between (InRow made)) left) row
          ∙ ap (λ it. take_tokens it (Between (InRow the_row)) left) same ∙ taken.0,
      taken.1,
    )
