use Rattle.std.proofs.Common.{◌≡◌, ◌∙◌, sym, Some}
use Rattle.mpslp_write.specs.ByForm.{declares_in, first_fault_in}
use Rattle.mpslp_c.{specs.Answers.format_of, proofs.DefinesLemmas.loaded}
use Rattle.mpslp_c.proofs.loading.seeded_load.Goals as goal

pub returns-in-Some : goal.returns-in-Some
returns-in-Some c = let file_format = c.in-Some.file_format in
    let known : format_of c.args.format ≡ Some file_format = sym c.format_of.ensures ∙ c.in-Some.is in
    rw known (loaded (declares_in file_format) (first_fault_in file_format) c.args.bytes.now c.arrays_in.result
    c.give_model.result _ _ _ _ c.arrays_in.ensures.answer c.arrays_in.ensures.accepts c.arrays_in.ensures.refuses
    c.give_model.ensures)
