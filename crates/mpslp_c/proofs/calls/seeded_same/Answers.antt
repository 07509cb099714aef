use Rattle.std.proofs.Common.{◌≡◌, ◌∙◌, sym, Some}
use Rattle.mpslp_write.specs.ByForm.{declares_in, first_fault_in}
use Rattle.mpslp_c.{specs.Answers.format_of, proofs.DefinesLemmas.compared}
use Rattle.mpslp_c.proofs.calls.seeded_same.Goals as goal

pub returns : goal.returns
returns c =
    let one = c.in-Some.first_file_format in
    let other = c.in-Some-format_of.second_file_format in
    let first_known : format_of c.args.first_format ≡ Some one = sym c.format_of.ensures ∙ c.in-Some.is in
    let second_known : format_of c.args.second_format ≡ Some other = sym c.format_of-2.ensures ∙ c.in-Some-format_of.is in
    rw (first_known, second_known) (compared (declares_in one) (first_fault_in one) (declares_in other) (first_fault_in other)
    c.args.first.now c.args.second.now c.same_for_c.result c.give_truth.result _ _ c.same_for_c.ensures.answer
    c.same_for_c.ensures.accepts c.same_for_c.ensures.refuses c.same_for_c.ensures.refuses_second c.give_truth.ensures)
