use Rattle.mpslp_c.proofs.storing.stored_text_in.Goals as goal

pub returns-in-Mps-clause-answer : goal.returns-in-Mps-clause-answer
returns-in-Mps-clause-answer c = rw c.in-Mps.is c.stored_text.ensures.answer

pub returns-in-Mps-clause-accepts : goal.returns-in-Mps-clause-accepts
returns-in-Mps-clause-accepts c = rw c.in-Mps.is c.stored_text.ensures.accepts

pub returns-in-Mps-clause-cannot_express : goal.returns-in-Mps-clause-cannot_express
returns-in-Mps-clause-cannot_express c = rw c.in-Mps.is c.stored_text.ensures.cannot_express

pub returns-in-Lp-clause-answer : goal.returns-in-Lp-clause-answer
returns-in-Lp-clause-answer c = rw c.in-Lp.is c.stored_text-in-Lp.ensures.answer

pub returns-in-Lp-clause-accepts : goal.returns-in-Lp-clause-accepts
returns-in-Lp-clause-accepts c = rw c.in-Lp.is c.stored_text-in-Lp.ensures.accepts

pub returns-in-Lp-clause-cannot_express : goal.returns-in-Lp-clause-cannot_express
returns-in-Lp-clause-cannot_express c = rw c.in-Lp.is c.stored_text-in-Lp.ensures.cannot_express
