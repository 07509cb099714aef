use Rattle.mpslp_lines.{specs.declared.errors.LineError.TheVariants.Fault, proofs.AnswerLemmas.ends-by}
use Rattle.mpslp_mps.proofs.Prelude.{◌∙◌, ap, sym, map, refl, [], list_all, FaultTests, first_held, has_kind_clash, Columns}
use Rattle.mpslp_mps.proofs.ContextSteps.{step-marker}
use Rattle.mpslp_mps.proofs.LineFaults.{is_early, data-judged, data-taken}
use Rattle.mpslp_mps.proofs.ColumnFaults.{marker-tests, marker-early, marker-declares}
use Rattle.mpslp_mps.proofs.columns.read_marker.Goals as goal

pub returns-in_err-opens-clause-answers : goal.returns-in_err-opens-clause-answers
returns-in_err-opens-clause-answers c earlier =
    let fields = map (λ field. field.now) c.args.fields.now in
    let context = c.args.context.now in
    let tests = marker-tests context earlier fields c.requires.marker in
    ends-by c.from_residual.result
    (Fault c.in_err-opens.field-0.0) _ _ c.from_residual.ensures.1 (data-judged context earlier fields Columns
    (Fault c.in_err-opens.field-0.0) c.requires.section (ap (λ (t : FaultTests). list_all is_early t) tests ∙ marker-early context fields)
    (ap (has_kind_clash earlier) (marker-declares context earlier fields c.requires.marker))
    (ap first_held tests ∙ c.in_err-opens.ensures))

pub returns-clause-answers : goal.returns-clause-answers
returns-clause-answers c earlier =
    let fields = map (λ field. field.now) c.args.fields.now in
    let context = c.args.context.now in
    data-taken
    context earlier fields Columns [] c.pass_marker.new.self earlier c.requires.section
    (ap first_held (marker-tests context earlier fields
    c.requires.marker) ∙ c.in_ok-opens.ensures.0) (marker-declares context earlier fields c.requires.marker) refl (c.pass_marker.ensures
    ∙ sym (step-marker context fields c.in_ok-opens.opens c.requires.section c.requires.marker c.in_ok-opens.ensures.1)) refl
