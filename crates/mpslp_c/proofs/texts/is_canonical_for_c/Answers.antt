use Rattle.mpslp_c.proofs.texts.is_canonical_for_c.Goals as goal

pub returns-in-Mps-clause-answer : goal.returns-in-Mps-clause-answer
returns-in-Mps-clause-answer c = rw c.in-Mps.is c.is_canonical_seeded.ensures.answer

pub returns-in-Mps-clause-accepts : goal.returns-in-Mps-clause-accepts
returns-in-Mps-clause-accepts c = rw c.in-Mps.is c.is_canonical_seeded.ensures.accepts

pub returns-in-Mps-clause-refuses : goal.returns-in-Mps-clause-refuses
returns-in-Mps-clause-refuses c = rw c.in-Mps.is c.is_canonical_seeded.ensures.refuses

pub returns-in-Lp-clause-answer : goal.returns-in-Lp-clause-answer
returns-in-Lp-clause-answer c = rw c.in-Lp.is c.is_canonical_seeded-in-Lp.ensures.answer

pub returns-in-Lp-clause-accepts : goal.returns-in-Lp-clause-accepts
returns-in-Lp-clause-accepts c = rw c.in-Lp.is c.is_canonical_seeded-in-Lp.ensures.accepts

pub returns-in-Lp-clause-refuses : goal.returns-in-Lp-clause-refuses
returns-in-Lp-clause-refuses c = rw c.in-Lp.is c.is_canonical_seeded-in-Lp.ensures.refuses
