use Rattle.mpslp_mps.proofs.Prelude
use Prelude.{◌≡◌, refl, sym, ap, subst, ◌∙◌, [], ◌∷◌, Option, option_map_or, declare_sense, Declarations, Draft, with_declaration, Sense}
use Prelude.{error_of_build, IsErrorOf, declared_fault}
use Rattle.mpslp_lines.proofs.{RefusedLemmas.call-error, AnswerLemmas.ends-by}
use Rattle.mpslp_mps.proofs.header_lines.declare_sense.Goals as goal

pub returns-in_err-sense-clause-answers : goal.returns-in_err-sense-clause-answers
returns-in_err-sense-clause-answers c =
    let all = c.args.builder.now in
    let d = declare_sense c.in-Some.sense in
    let fault = c.in_err-sense.field-0.0 in
    let refused = call-error all d fault (◌≡◌ {A = Draft} c.sense.new.self (with_declaration all d))
    (◌≡◌ {A = Draft} c.sense.new.self all) refl c.in_err-sense.ensures.answers in
    let is = ap (λ (o : Option Sense). option_map_or (λ sense. declare_sense sense ∷ []) o []) (sym c.in-Some.is)
    ∙ c.header_sense.ensures in
    ends-by c.from_residual.result (error_of_build fault) _ _ c.from_residual.ensures.1
    (subst (λ (ds : Declarations). IsErrorOf (declared_fault all ds) (error_of_build fault)) is refused)
