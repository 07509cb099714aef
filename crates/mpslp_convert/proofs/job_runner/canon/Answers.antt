use Rattle.mpslp_convert.proofs.job_runner.canon.Goals as goal

pub returns-in-Mps-Mps-clause-answer : goal.returns-in-Mps-Mps-clause-answer
returns-in-Mps-Mps-clause-answer g c =
    rw (c.in-Mps-Mps.is-0, c.in-Mps-Mps.is-1) (c.run_seeded.result, c.run_seeded.ensures.answer, c.ended_by.ensures)

pub returns-in-Mps-Lp-clause-answer : goal.returns-in-Mps-Lp-clause-answer
returns-in-Mps-Lp-clause-answer g c =
    rw (c.in-Mps-Lp.is-0, c.in-Mps-Lp.is-1)
    (c.run_seeded-in-Mps-Lp.result, c.run_seeded-in-Mps-Lp.ensures.answer, c.ended_by-in-Mps-Lp.ensures)

pub returns-in-Lp-Mps-clause-answer : goal.returns-in-Lp-Mps-clause-answer
returns-in-Lp-Mps-clause-answer g c =
    rw (c.in-Lp-Mps.is-0, c.in-Lp-Mps.is-1)
    (c.run_seeded-in-Lp-Mps.result, c.run_seeded-in-Lp-Mps.ensures.answer, c.ended_by-in-Lp-Mps.ensures)

pub returns-in-Lp-Lp-clause-answer : goal.returns-in-Lp-Lp-clause-answer
returns-in-Lp-Lp-clause-answer g c =
    rw (c.in-Lp-Lp.is-0, c.in-Lp-Lp.is-1)
    (c.run_seeded-in-Lp-Lp.result, c.run_seeded-in-Lp-Lp.ensures.answer, c.ended_by-in-Lp-Lp.ensures)
