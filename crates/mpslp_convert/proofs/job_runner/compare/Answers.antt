use Rattle.std.proofs.Common.{refl, ap, Ok, Err}
use Rattle.mpslp_convert.proofs.job_runner.compare.Goals as goal

pub returns-in-Err-clause-answer : goal.returns-in-Err-clause-answer
returns-in-Err-clause-answer g c = (Err c.in-Err.fault, c.in-Err.ensures.answer, (ap Err c.new.ensures, refl, refl))

pub returns-in-Err-read_text-clause-answer : goal.returns-in-Err-read_text-clause-answer
returns-in-Err-read_text-clause-answer g c =
    let one = c.in-Ok.ensures.answer in (
      Ok one.0,
      one.1,
      (
        Err c.in-Err-read_text.fault,
        c.in-Err-read_text.ensures.answer,
        (ap Err c.new-in-Err-read_text.ensures, refl),
      ),
    )

pub returns-clause-answer : goal.returns-clause-answer
returns-clause-answer g c =
    let one = c.in-Ok.ensures.answer in
    let other = c.in-Ok-read_text.ensures.answer in
    let same = c.same_of.ensures one.0.items other.0.items one.2 other.2 in
    (Ok one.0, one.1, (Ok other.0, other.1, (c.same_of.result, same, c.print_comparison.ensures.answer)))
