use Rattle.mpslp_lp.proofs.Prelude.{sym, ap, ◌∙◌, arith, one, default_row, InRow, Between, take_tokens, row_of_term}
use Rattle.mpslp_lp.proofs.PlainPhrases.{same-first}
use Rattle.mpslp_lp.proofs.plain_row_starts.take_column.Goals as goal

pub returns : goal.returns
returns c = λ terminal more begins same. let context = c.args.context.now in
    let after = c.row_of_column.new.context in
    let column = c.args.column.now in
    let left = c.args.left in
    let row = row_of_term (default_row context) column one in
    let made = c.in_ok-row.ensures in (
      ap (λ state. take_tokens after state left) c.set_state.ensures
          ∙ ap (λ it. take_tokens after (Between (InRow it)) left) made.0
          ∙ ap (λ it. take_tokens it (Between (InRow row)) left) made.1 ∙ sym (same-first _ _ _ _ _ _ begins same),
      omega arith,
    )
