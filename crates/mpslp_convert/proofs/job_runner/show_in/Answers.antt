use Rattle.mpslp_convert.proofs.job_runner.show_in.Goals as goal

pub returns-in-Mps-clause-answer : goal.returns-in-Mps-clause-answer
returns-in-Mps-clause-answer g c = rw (c.in-Mps.is) (c.show_seeded.result, c.show_seeded.ensures.answer, c.ended_by.ensures)

pub returns-in-Lp-clause-answer : goal.returns-in-Lp-clause-answer
returns-in-Lp-clause-answer g c =
    rw (c.in-Lp.is) (c.show_seeded-in-Lp.result, c.show_seeded-in-Lp.ensures.answer, c.ended_by-in-Lp.ensures)

pub returns-in-Lp-clause-source : goal.returns-in-Lp-clause-source
returns-in-Lp-clause-source g c =
    record {
      asked = c.show_seeded-in-Lp.ensures.asked;
      calls = c.show_seeded-in-Lp.ensures.calls;
      stays =
          c.show_seeded-in-Lp.ensures.source_stays;
    }
