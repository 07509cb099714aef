use Rattle.mpslp_lp.proofs.Prelude.{inl}
use Rattle.mpslp_lp.proofs.plain_row_starts.term_after.Goals as goal

pub returns-in-Some-unsigned_from-clause-term : goal.returns-in-Some-unsigned_from-clause-term
returns-in-Some-unsigned_from-clause-term c = λ found sign. record {
  sign = c.args.sign;
  size = c.in-Some-unsigned_from.term.value;
  after_sign = c.args.tokens.now;
  signed = inl sign;
  term = c.in-Some-unsigned_from.ensures.term _ c.in-Some.ensures.next;
  gives = c.of.ensures;
}
