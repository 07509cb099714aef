use Rattle.mpslp_lp.proofs.Prelude.{refl, subst, inr, Plus, terminal_with_text, Begins}
use Rattle.mpslp_lp.proofs.plain_row_starts.term_from.Goals as goal

pub returns-in-Some-clause-term : goal.returns-in-Some-clause-term
returns-in-Some-clause-term c = λ found begins. c.in-Some.ensures.term _
    (subst (λ kind. Begins found (terminal_with_text kind c.args.token.now.text.now) c.args.tokens.now) c.in-Sign.is begins)

pub returns-in-Some-unsigned_from-clause-term : goal.returns-in-Some-unsigned_from-clause-term
returns-in-Some-unsigned_from-clause-term c = λ found begins. record {
  sign = Plus;
  size = c.in-Some-unsigned_from.term.value;
  after_sign = found;
  signed = inr (refl, refl);
  term = c.in-Some-unsigned_from.ensures.term _ begins;
  gives = refl;
}
