use Rattle.std.proofs.Common.{◌≡◌, ◌∙◌, sym, ap, subst, [], Some}
use Rattle.mpslp_conversions.specs.Runs.{IsAll}
use Rattle.mpslp_tests.proofs.converting.run_in_memory.Goals as goal

pub returns : goal.returns
returns g c = λ m declared.
    let source = g.A.Format in
    let target = g.B.Format in
    let run = c.in_ok-run.ensures.answer in
    let all_read : c.args.bytes.now ≡ run.0 = subst (λ l. IsAll l run.0) c.new-source.ensures.left run.2.all in
    let same : run.1 ≡ m = g.met.A.Format.one_model c.args.bytes.now run.1 m
    (subst (λ l. source.declares l run.1) (sym all_read) run.3) declared in
    let empty = (c.new-sink.ensures.holds []).1 (ap Some c.new.ensures.items) in
    let held = (c.into_inner.ensures (target.text run.1)).0 (run.5.took [] empty) in
    let text_is : c.into_inner.result.items ≡ target.text run.1 = cc in
    text_is ∙ ap target.text same
