use Rattle.std.proofs.Common.{◌∙◌, sym, ap, inl}
use Rattle.mpslp_c.proofs.DefinesLemmas.{one_model, some_none, same_some}
use Rattle.mpslp_c.specs.declared.faults.StoreFault.TheVariants as stored
use Rattle.mpslp_c.proofs.storing.stored_text.Goals as goal

pub returns-in-Ok-clause-answer : goal.returns-in-Ok-clause-answer
returns-in-Ok-clause-answer g c = (c.in_ok-model.model, c.in_ok-model.ensures.answer, c.in-Ok.ensures.0, c.in-Ok.ensures.1)

pub returns-in-Ok-clause-refuses : goal.returns-in-Ok-clause-refuses
returns-in-Ok-clause-refuses g c = λ why has. absurd (c.in_ok-model.ensures.refuses why has)

pub returns-in-Ok-clause-cannot_express : goal.returns-in-Ok-clause-cannot_express
returns-in-Ok-clause-cannot_express g c = λ m place defines found. let format = g.B.Format in
    let same = one_model c.args.model.now c.in_ok-model.model m c.in_ok-model.ensures.answer defines in
    absurd (some_none (format.unfit m) place (ap format.unfit (sym same) ∙ c.in-Ok.ensures.0) found)

pub returns-in-Err-NotLp-clause-answer : goal.returns-in-Err-NotLp-clause-answer
returns-in-Err-NotLp-clause-answer g c =
    (c.in_ok-model.model, c.in_ok-model.ensures.answer, rw c.in-Err-NotLp.field-0-is at c.in-Err-NotLp.ensures)

pub returns-in-Err-NotLp-clause-accepts : goal.returns-in-Err-NotLp-clause-accepts
returns-in-Err-NotLp-clause-accepts g c = λ m defines fits. let format = g.B.Format in
    let same = one_model c.args.model.now c.in_ok-model.model m c.in_ok-model.ensures.answer defines in
    let unfit = rw c.in-Err-NotLp.field-0-is at c.in-Err-NotLp.ensures in
    absurd (some_none (format.unfit m) c.in-Err-NotLp.place fits (ap format.unfit (sym same) ∙ unfit))

pub returns-in-Err-NotLp-clause-refuses : goal.returns-in-Err-NotLp-clause-refuses
returns-in-Err-NotLp-clause-refuses g c = λ why has. absurd (c.in_ok-model.ensures.refuses why has)

pub returns-in-Err-NotLp-clause-cannot_express : goal.returns-in-Err-NotLp-clause-cannot_express
returns-in-Err-NotLp-clause-cannot_express g c = λ m place defines found. let format = g.B.Format in
    let same = one_model c.args.model.now c.in_ok-model.model m c.in_ok-model.ensures.answer defines in
    let unfit = rw c.in-Err-NotLp.field-0-is at c.in-Err-NotLp.ensures in
    inl (ap stored.NotLp (same_some (sym (ap format.unfit (sym same) ∙ unfit) ∙ found)))
