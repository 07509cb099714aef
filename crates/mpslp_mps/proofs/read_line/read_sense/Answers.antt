use Rattle.mpslp_mps.proofs.Prelude
use Prelude.{◌≡◌, refl, sym, subst, [], ◌∷◌, map, not, Option, Some, is_some, FaultKind, declare_sense, Draft, with_declaration}
use Prelude.{error_of_build, IsErrorOf, word_shape, ObjSense}
use Rattle.mpslp_lines.{specs.declared.errors.LineError.TheVariants.Fault, proofs.{RefusedLemmas.call-error, AnswerLemmas.ends-by}}
use Rattle.mpslp_mps.proofs.LineFaults.{data_fault-declared, data-judged, sense-early}
use Rattle.mpslp_mps.proofs.OrderLemmas.{sense-apart}
use Rattle.mpslp_mps.proofs.read_line.read_sense.Goals as goal

pub returns-in_err-sense-clause-answers : goal.returns-in_err-sense-clause-answers
returns-in_err-sense-clause-answers c =
    let fields = map (λ field. field.now) c.args.fields.now in
    let context = c.args.context.now in
    ends-by c.from_residual.result (Fault c.in_err-sense.field-0.0) _ _ c.from_residual.ensures.1 (data-judged context c.args.builder.now
    fields ObjSense (Fault c.in_err-sense.field-0.0) c.requires.section (sense-early (not (is_some context.word_due)) (word_shape fields))
    (sense-apart context c.args.builder.now fields) c.in_err-sense.ensures)

pub returns-in_err-sense-2-clause-answers : goal.returns-in_err-sense-2-clause-answers
returns-in_err-sense-2-clause-answers c =
    let fields = map (λ field. field.now) c.args.fields.now in
    let all = c.args.builder.now in
    let d = declare_sense c.in_ok-sense.sense in
    let fault = c.in_err-sense-2.field-0.0 in
    let refused = call-error all d fault (◌≡◌ {A = Draft} c.sense.new.self (with_declaration all d))
    (◌≡◌ {A = Draft} c.sense.new.self all) refl c.in_err-sense-2.ensures.answers in
    let declared = data_fault-declared c.args.context.now all fields (Some ObjSense) (d ∷ []) c.requires.section
    c.in_ok-sense.ensures.0 c.in_ok-sense.ensures.1 in
    ends-by c.from_residual-in_err-sense-2.result (error_of_build fault) _ _ c.from_residual-in_err-sense-2.ensures.1
    (subst (λ (o : Option FaultKind). IsErrorOf o (error_of_build fault)) (sym declared) refused)
