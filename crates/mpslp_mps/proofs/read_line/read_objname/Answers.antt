use Rattle.mpslp_lines.{specs.declared.errors.LineError.TheVariants.Fault, proofs.AnswerLemmas.ends-by}
use Rattle.mpslp_mps.proofs.Prelude.{refl, sym, ◌∙◌, [], map, not, is_some, word_shape, ObjName}
use Rattle.mpslp_mps.proofs.ContextSteps.{step-objname}
use Rattle.mpslp_mps.proofs.LineFaults.{data-judged, data-taken, objective-name-early}
use Rattle.mpslp_mps.proofs.read_line.read_objname.Goals as goal

pub returns-in_err-name-clause-answers : goal.returns-in_err-name-clause-answers
returns-in_err-name-clause-answers c = λ earlier. let fields = map (λ field. field.now) c.args.fields.now in
    let context = c.args.context.now in ends-by c.from_residual.result (Fault c.in_err-name.field-0.0) _ _ c.from_residual.ensures.1
    (data-judged context earlier fields ObjName (Fault c.in_err-name.field-0.0) c.requires.section
    (objective-name-early (not (is_some context.word_due)) (word_shape fields)) refl c.in_err-name.ensures)

pub returns-clause-answers : goal.returns-clause-answers
returns-clause-answers c = λ earlier. let fields = map (λ field. field.now) c.args.fields.now in
    let context = c.args.context.now in
    data-taken context earlier fields ObjName [] c.pass_objname.new.self earlier c.requires.section c.in_ok-name.ensures.0 refl refl
    (c.in_ok-pass_objname.ensures
    ∙ sym (step-objname context fields c.in_ok-name.name.now c.requires.section c.in_ok-name.ensures.1)) refl
