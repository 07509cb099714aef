use Rattle.std.proofs.Common.{◌≡◌, ◌∙◌, sym, Some}
use Rattle.mpslp_write.specs.ByForm.{unfit_in, text_in}
use Rattle.mpslp_c.{specs.Answers.format_of, proofs.DefinesLemmas.stored_so}
use Rattle.mpslp_c.proofs.storing.seeded_store.Goals as goal

pub returns-in-Some : goal.returns-in-Some
returns-in-Some c =
    let target = c.in-Some.to in
    let known : format_of c.args.to ≡ Some target = sym c.format_of.ensures ∙ c.in-Some.is in
    rw known (stored_so (unfit_in target) (text_in target) c.args.model.now c.stored_text_in.result c.give_stored.result
    _ _ _ _ c.stored_text_in.ensures.answer c.stored_text_in.ensures.accepts c.stored_text_in.ensures.refuses
    c.stored_text_in.ensures.cannot_express c.give_stored.ensures)
