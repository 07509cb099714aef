use Rattle.mpslp_convert.proofs.job_runner.print_comparison.Goals as goal

pub returns-in-Ok-false-clause-answer : goal.returns-in-Ok-false-clause-answer
returns-in-Ok-false-clause-answer g c =
    rw (c.in-Ok-false.is, c.in-Ok-false.field-0-test)
    (c.print-in-Ok-false.result, c.print-in-Ok-false.ensures.answer, c.ended_by-in-Ok-false.ensures)
