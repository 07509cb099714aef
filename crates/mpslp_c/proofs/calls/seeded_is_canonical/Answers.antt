use Rattle.std.proofs.Common.{◌≡◌, ◌∙◌, sym, Some}
use Rattle.mpslp_write.specs.ByForm.{declares_in, first_fault_in, text_in}
use Rattle.mpslp_c.{specs.Answers.format_of, proofs.DefinesLemmas.tested}
use Rattle.mpslp_c.proofs.calls.seeded_is_canonical.Goals as goal

pub returns-in-Some : goal.returns-in-Some
returns-in-Some c = let file_format = c.in-Some.file_format in
    let known : format_of c.args.format ≡ Some file_format = sym c.format_of.ensures ∙ c.in-Some.is in
    rw known (tested (declares_in file_format) (first_fault_in file_format) (text_in file_format) c.args.bytes.now
    c.is_canonical_for_c.result c.give_truth.result _ _ c.is_canonical_for_c.ensures.answer
    c.is_canonical_for_c.ensures.accepts c.is_canonical_for_c.ensures.refuses c.give_truth.ensures)
