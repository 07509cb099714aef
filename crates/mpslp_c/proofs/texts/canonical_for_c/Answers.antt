use Rattle.mpslp_c.proofs.texts.canonical_for_c.Goals as goal

pub returns-in-Mps-Mps-clause-answer : goal.returns-in-Mps-Mps-clause-answer
returns-in-Mps-Mps-clause-answer c = rw (c.in-Mps-Mps.is-0, c.in-Mps-Mps.is-1) c.canonical_seeded.ensures.answer

pub returns-in-Mps-Mps-clause-accepts : goal.returns-in-Mps-Mps-clause-accepts
returns-in-Mps-Mps-clause-accepts c = rw (c.in-Mps-Mps.is-0, c.in-Mps-Mps.is-1) c.canonical_seeded.ensures.accepts

pub returns-in-Mps-Mps-clause-refuses : goal.returns-in-Mps-Mps-clause-refuses
returns-in-Mps-Mps-clause-refuses c = rw c.in-Mps-Mps.is-0 c.canonical_seeded.ensures.refuses

pub returns-in-Mps-Mps-clause-cannot_express : goal.returns-in-Mps-Mps-clause-cannot_express
returns-in-Mps-Mps-clause-cannot_express c = rw (c.in-Mps-Mps.is-0, c.in-Mps-Mps.is-1) c.canonical_seeded.ensures.cannot_express

pub returns-in-Mps-Lp-clause-answer : goal.returns-in-Mps-Lp-clause-answer
returns-in-Mps-Lp-clause-answer c = rw (c.in-Mps-Lp.is-0, c.in-Mps-Lp.is-1) c.canonical_seeded-in-Mps-Lp.ensures.answer

pub returns-in-Mps-Lp-clause-accepts : goal.returns-in-Mps-Lp-clause-accepts
returns-in-Mps-Lp-clause-accepts c = rw (c.in-Mps-Lp.is-0, c.in-Mps-Lp.is-1) c.canonical_seeded-in-Mps-Lp.ensures.accepts

pub returns-in-Mps-Lp-clause-refuses : goal.returns-in-Mps-Lp-clause-refuses
returns-in-Mps-Lp-clause-refuses c = rw c.in-Mps-Lp.is-0 c.canonical_seeded-in-Mps-Lp.ensures.refuses

pub returns-in-Mps-Lp-clause-cannot_express : goal.returns-in-Mps-Lp-clause-cannot_express
returns-in-Mps-Lp-clause-cannot_express c =
    rw (c.in-Mps-Lp.is-0, c.in-Mps-Lp.is-1) c.canonical_seeded-in-Mps-Lp.ensures.cannot_express

pub returns-in-Lp-Mps-clause-answer : goal.returns-in-Lp-Mps-clause-answer
returns-in-Lp-Mps-clause-answer c = rw (c.in-Lp-Mps.is-0, c.in-Lp-Mps.is-1) c.canonical_seeded-in-Lp-Mps.ensures.answer

pub returns-in-Lp-Mps-clause-accepts : goal.returns-in-Lp-Mps-clause-accepts
returns-in-Lp-Mps-clause-accepts c = rw (c.in-Lp-Mps.is-0, c.in-Lp-Mps.is-1) c.canonical_seeded-in-Lp-Mps.ensures.accepts

pub returns-in-Lp-Mps-clause-refuses : goal.returns-in-Lp-Mps-clause-refuses
returns-in-Lp-Mps-clause-refuses c = rw c.in-Lp-Mps.is-0 c.canonical_seeded-in-Lp-Mps.ensures.refuses

pub returns-in-Lp-Mps-clause-cannot_express : goal.returns-in-Lp-Mps-clause-cannot_express
returns-in-Lp-Mps-clause-cannot_express c =
    rw (c.in-Lp-Mps.is-0, c.in-Lp-Mps.is-1) c.canonical_seeded-in-Lp-Mps.ensures.cannot_express

pub returns-in-Lp-Lp-clause-answer : goal.returns-in-Lp-Lp-clause-answer
returns-in-Lp-Lp-clause-answer c = rw (c.in-Lp-Lp.is-0, c.in-Lp-Lp.is-1) c.canonical_seeded-in-Lp-Lp.ensures.answer

pub returns-in-Lp-Lp-clause-accepts : goal.returns-in-Lp-Lp-clause-accepts
returns-in-Lp-Lp-clause-accepts c = rw (c.in-Lp-Lp.is-0, c.in-Lp-Lp.is-1) c.canonical_seeded-in-Lp-Lp.ensures.accepts

pub returns-in-Lp-Lp-clause-refuses : goal.returns-in-Lp-Lp-clause-refuses
returns-in-Lp-Lp-clause-refuses c = rw c.in-Lp-Lp.is-0 c.canonical_seeded-in-Lp-Lp.ensures.refuses

pub returns-in-Lp-Lp-clause-cannot_express : goal.returns-in-Lp-Lp-clause-cannot_express
returns-in-Lp-Lp-clause-cannot_express c =
    rw (c.in-Lp-Lp.is-0, c.in-Lp-Lp.is-1) c.canonical_seeded-in-Lp-Lp.ensures.cannot_express
