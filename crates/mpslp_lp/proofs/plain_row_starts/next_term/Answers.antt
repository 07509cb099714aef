use Rattle.mpslp_lp.proofs.plain_row_starts.next_term.Goals as goal

pub returns-in-Some-term_from-clause-term : goal.returns-in-Some-term_from-clause-term
returns-in-Some-term_from-clause-term c = c.in-Some-term_from.ensures.term _ c.in-Some.ensures.next
