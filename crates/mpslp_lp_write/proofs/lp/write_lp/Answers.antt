use Rattle.mpslp_lp_write.proofs.Prelude
use Prelude.{◌≡◌, rules, sym, ◌∙◌, [], Option, Some, None, canonical_lp, unfit}
use Rattle.mpslp_model.proofs.WrittenLemmas.{taken-written}
use Rattle.mpslp_io.proofs.BufferLemmas.{taken-succeeds}
use Rattle.mpslp_types.specs.declared.faults.NameAt.{NameAt}
use Rattle.mpslp_lp_write.proofs.{FirstPlace.{none-left}, LpLineTexts.{canonical_lp-some}}
use Rattle.mpslp_lp_write.proofs.lp.write_lp.Goals as goal

no_place : (place : NameAt) → ◌≡◌ {A = Option NameAt} None (Some place) → ⊥
no_place place e = cc

pub returns : goal.returns
returns g c =
    let sink = g.W.Sink in
    let first = c.args.sink.now in
    let now = c.finish.new.self.sink.now in
    let m = c.args.model.now in
    let text = canonical_lp m in
    let fits = sym c.first_unfit_name.ensures ∙ none-left c.first_unfit_name.result c.in_default.not-Some in
    let put = c.put_lines.ensures.puts first [] (c.new-output.ensures.empty c.new-buffer.ensures) in
    let answer = taken-written sink.holds sink.failed unfit canonical_lp m first now c.finish.result fits
    (c.finish.ensures.answer first text [] put) in
    let refuses = λ (place : NameAt) (is : unfit m ≡ Some place). no_place place (sym fits ∙ is) in
    let succeeds = taken-succeeds sink.holds sink.failed first now text c.finish.result
    (c.finish.ensures.answer first text [] put) in
    let works = c.finish.ensures.works first text [] put (canonical_lp-some m) in
    let calls = c.finish.ensures.calls first text [] put in
    let stays = c.finish.ensures.stays first text [] put in
    search rules
