use Rattle.std.proofs.Common.{arith}
use Rattle.mpslp_conversions.proofs.ConversionLemmas.{comparison_of, second_is_accepted}
use Rattle.mpslp_conversions.proofs.conversion.same_model_seeded.Goals as goal

pub returns-clause-answer : goal.returns-clause-answer
returns-clause-answer = grind (arith, comparison_of)

pub returns-clause-accepts : goal.returns-clause-accepts
returns-clause-accepts g c = λ m n one declared.
    let other = g.B.Format in
    let bytes = c.args.second.now in
    second_is_accepted other.declares other.first_fault c.in_ok-one.one n bytes _
    (λ fault found. g.met.B.Format.no_fault bytes n fault declared found) c.is_model_of.ensures

pub returns-clause-refuses : goal.returns-clause-refuses
returns-clause-refuses = grind arith

pub returns-clause-refuses_second : goal.returns-clause-refuses_second
returns-clause-refuses_second = grind arith
