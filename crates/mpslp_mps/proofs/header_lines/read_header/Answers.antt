use Rattle.mpslp_lines.{specs.declared.errors.LineError.TheVariants.Fault, proofs.AnswerLemmas.ends-by}
use Rattle.mpslp_mps.proofs.Prelude.{sym, ap, subst, ◌∙◌, map, Option, FaultKind, with_declarations, IsErrorOf, Section, after_header}
use Rattle.mpslp_mps.proofs.Prelude.{header_declared}
use Rattle.mpslp_mps.proofs.ContextSteps.{step-header}
use Rattle.mpslp_mps.proofs.LineFaults.{header-form, header-declares}
use Rattle.mpslp_mps.proofs.header_lines.read_header.Goals as goal

pub returns-in_err-section-clause-answers : goal.returns-in_err-section-clause-answers
returns-in_err-section-clause-answers c =
    let more = map (λ field. field.now) c.args.more.now in
    ends-by c.from_residual.result (Fault c.in_err-section.field-0.0) _ _ c.from_residual.ensures.1
    (header-form c.args.context.now c.args.builder.now c.args.keyword.now more c.in_err-section.field-0.0 c.in_err-section.ensures)

pub returns-in_err-declare_header-clause-answers : goal.returns-in_err-declare_header-clause-answers
returns-in_err-declare_header-clause-answers c =
    let more = map (λ field. field.now) c.args.more.now in
    let error = c.in_err-declare_header.field-0.0 in
    ends-by c.from_residual-in_err-declare_header.result error _ _ c.from_residual-in_err-declare_header.ensures.1
    (subst (λ (o : Option FaultKind). IsErrorOf o error)
    (sym (header-declares c.args.context.now c.args.builder.now c.args.keyword.now more
    c.in_ok-section.section c.in_ok-section.ensures.0 c.in_ok-section.ensures.1)) c.in_err-declare_header.ensures.answers)

pub returns-clause-answers : goal.returns-clause-answers
returns-clause-answers c =
    let more = map (λ field. field.now) c.args.more.now in
    let context = c.args.context.now in
    let earlier = c.args.builder.now in
    let keyword = c.args.keyword.now in
    let section = c.in_ok-section.section in
    let named = c.in_ok-section.ensures.0 in (
      header-declares context earlier keyword more section named c.in_ok-section.ensures.1 ∙ c.in_ok-declare_header.ensures.answers.0,
      c.in_ok-pass_header.ensures ∙ (λ i. after_header context section (c.section_of_word_due.ensures i) (c.header_objname.ensures i))
          ∙ sym (step-header context keyword more section named),
      c.in_ok-declare_header.ensures.answers.1
          ∙ ap (λ (o : Option Section). with_declarations earlier (header_declared context earlier more o)) (sym named),
    )
