use Rattle.std.proofs.Common.{◌≡◌, ◌∙◌, sym, Some}
use Rattle.mpslp_write.specs.ByForm.{declares_in, first_fault_in, unfit_in, text_in}
use Rattle.mpslp_c.{specs.Answers.format_of, proofs.DefinesLemmas.converted}
use Rattle.mpslp_c.proofs.calls.seeded_canonical.Goals as goal

pub returns : goal.returns
returns c =
    let source = c.in-Some.from in
    let target = c.in-Some-format_of.to in
    let source_known : format_of c.args.from ≡ Some source = sym c.format_of.ensures ∙ c.in-Some.is in
    let target_known : format_of c.args.to ≡ Some target = sym c.format_of-2.ensures ∙ c.in-Some-format_of.is in
    rw (source_known, target_known) (converted (declares_in source) (first_fault_in source) (unfit_in target) (text_in target)
    c.args.bytes.now c.canonical_for_c.result c.give_text.result _ _ _ _ c.canonical_for_c.ensures.answer
    c.canonical_for_c.ensures.accepts c.canonical_for_c.ensures.refuses c.canonical_for_c.ensures.cannot_express
    c.give_text.ensures)
