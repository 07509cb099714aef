use Rattle.std.proofs.Common.{length, ◌∷◌}
use Rattle.mpslp_conversions.proofs.ConversionLemmas.{test_of}
use Rattle.mpslp_conversions.proofs.conversion.is_canonical_seeded.Goals as goal

pub returns-clause-answer : goal.returns-clause-answer
returns-clause-answer g c =
    let format = g.A.Format in
    let bytes = c.args.bytes.now in
    let model = c.in_ok-model.model in
    let held = c.in-Ok.ensures.answer.1 (length bytes ∷ bytes) c.with-comparison.ensures in
    test_of format.declares format.first_fault format.text bytes model c.is_same.result c.in_ok-model.ensures
    (c.is_same.ensures bytes (format.text model) held)
