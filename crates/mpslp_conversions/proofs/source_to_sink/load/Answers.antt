use Rattle.mpslp_conversions.proofs.LoadLemmas.{TakesAtMost-then}
use Rattle.mpslp_conversions.proofs.source_to_sink.load.Goals as goal

pub returns-in_err-taken-clause-asked : goal.returns-in_err-taken-clause-asked
returns-in_err-taken-clause-asked g c =
    let before = c.reads.invariant in
    TakesAtMost-then _ _ _ c.reads.bytes.items c.reads.room _ before.taken before.counted c.in_err-taken.ensures.asked

pub returns-then-is_err-clause-asked : goal.returns-then-is_err-clause-asked
returns-then-is_err-clause-asked g c =
    let before = c.reads.invariant in
    TakesAtMost-then _ _ _ c.reads.bytes.items c.reads.room _ before.taken before.counted c.in_ok-taken.ensures.asked
