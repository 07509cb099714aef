use Rattle.mpslp_c.proofs.normalizing.normalized.Goals as goal

pub returns-in-Ok-clause-answer : goal.returns-in-Ok-clause-answer
returns-in-Ok-clause-answer c = (c.in_ok-model.model, c.in_ok-model.ensures.answer, c.in-Ok.ensures)

pub returns-in-Ok-clause-refuses : goal.returns-in-Ok-clause-refuses
returns-in-Ok-clause-refuses c = λ why has. absurd (c.in_ok-model.ensures.refuses why has)
