use Rattle.mpslp_lp.proofs.Prelude.{◌≡◌, sym, subst, refl, inl, inr, default_row, terminal_of_token, terminal_with_text, step, TerminalKind}
use Rattle.mpslp_lp.proofs.Prelude.{BetweenRows, Between, RowLabel, Begins}
use Rattle.mpslp_lp.proofs.plain_row_starts.take_unnamed_start.Goals as goal

pub returns-in-Sign : goal.returns-in-Sign
returns-in-Sign c =
    let context = c.args.context.now in
    let first = c.in-Some.first in
    let SameAt = λ (kind : TerminalKind). step context (Between BetweenRows)
    (terminal_with_text kind first.text.now) ≡ step context (RowLabel (default_row context))
    (terminal_with_text kind first.text.now) in c.take_unlabelled_term.ensures (elim c.in-Sign.is as (λ _.
    SameAt first.kind) [ inl sign ↦ subst SameAt (sym sign.1) refl | inr number ↦ subst SameAt (sym number.1) refl ])
    (subst (λ found. Begins found (terminal_of_token first) c.next_terminal.new.tokens) c.again-left.ensures
    c.in-Some.ensures.next)
