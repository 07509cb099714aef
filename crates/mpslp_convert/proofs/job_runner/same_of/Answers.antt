use Rattle.std.proofs.Common.{Ok}
use Rattle.mpslp_conversions.proofs.ConversionLemmas.{comparison_of}
use Rattle.mpslp_convert.proofs.job_runner.same_of.Goals as goal

pub returns-in-Ok-other : goal.returns-in-Ok-other
returns-in-Ok-other g c =
    let one = g.A.Format in
    let other = g.B.Format in
    rw (c.in-Ok.is, c.in-Ok-other.is) (λ first second declared declared'.
    comparison_of one.declares one.first_fault other.declares other.first_fault first second c.in-Ok.one
    (Ok c.same.result) declared (c.in-Ok-other.other, declared', c.same.ensures))

pub returns-in-Ok : goal.returns-in-Ok
returns-in-Ok g c = rw (c.in-Ok.is, c.in-Err-other.is) (λ first second declared fault. (c.in-Ok.one, declared, fault))
