use Rattle.std.proofs.Common.{◌<◌, refl, arith}
use Rattle.std.proofs.lemmas.List.{take_rest, length-drop}
use Rattle.mpslp_io.proofs.DeviceLemmas.{works_still}
use Rattle.mpslp_io.proofs.GrowsLemmas.{Grows-nil, Grows-more}
use Rattle.mpslp_io.proofs.put.put_all.Goals as goal

pub loop-at-init : goal.loop-at-init
loop-at-init g c = record {
  holds = Grows-nil g.W.Sink.holds c.args.sink.now;
  within = omega arith;
  tally_is = omega arith;
  calls = omega arith;
  stays = λ h. h;
  works = λ some. absurd (omega (arith, some));
  untouched = λ none. (refl, refl);
}

pub loop-at-preserved : goal.loop-at-preserved
loop-at-preserved g c =
    let bytes = rw take_rest at c.in_ok-taken.ensures.bytes in
    let before = c.loop-at.invariant in
    let rest = length-drop c.loop-at.at c.args.piece.now in
    let some : 0 < c.in_ok-taken.taken = bytes.1 (omega arith) in
    record {
      holds = Grows-more g.W.Sink.holds _ _ _ c.args.piece.now c.loop-at.at c.in_ok-taken.taken before.holds bytes.2;
      within = omega (arith, bytes.0);
      tally_is = omega arith;
      calls = omega (arith, some, c.write.ensures.counted);
      stays = λ h. c.write.ensures.stays (before.stays h);
      works = λ _. works_still _ c.in_ok-taken.ensures.fails.1;
      untouched = λ none. absurd (omega (arith, none, some));
    }

pub returns-clause-works : goal.returns-clause-works
returns-clause-works g c = λ _ some. let at_end = c.loop-at-test.false in c.loop-at.invariant.works (omega arith)

pub returns-clause-nothing : goal.returns-clause-nothing
returns-clause-nothing g c = λ none.
    let within = c.loop-at.invariant.within in
    let same = c.loop-at.invariant.untouched (omega arith) in
    (refl, same.0, same.1)
