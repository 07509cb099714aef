use Rattle.std.proofs.Common.{◌∙◌, ◌++◌, ℕ, List, refl, subst, codes}
use Rattle.mpslp_convert.specs.Performed.{sink_change, IsReported}
use Rattle.mpslp_convert.proofs.job_end.refuse.Goals as goal

pub returns-in-UnknownFormat-clause-answer : goal.returns-in-UnknownFormat-clause-answer
returns-in-UnknownFormat-clause-answer g c =
    let word_is = c.as_bytes-in-UnknownFormat.ensures.value ∙ c.as_str-in-UnknownFormat.ensures in
    let stated =
    subst (λ (word : List ℕ). IsReported (sink_change g.E.Sink c.args.err.now c.print_line-in-UnknownFormat.new.err)
    (codes "unknown format: " ++ word ++ codes "\n"))
    word_is c.print_line-in-UnknownFormat.ensures.answer in
    rw (c.in-UnknownFormat.is) (refl, refl, stated)
