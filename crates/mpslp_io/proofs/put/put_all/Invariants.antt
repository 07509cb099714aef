use Rattle.std.proofs.Common.{◌≡◌, ◌<◌, ◌≤◌, ◌+◌, ◌-◌, ◌^◌, min, true, false, length, take}
use Rattle.mpslp_io.specs.Devices.{Grows}
use Rattle.mpslp_io.proofs.put.put_all.Given as goal

abbrev pub invariant-loop-at : goal.invariant-loop-at
invariant-loop-at g l =
    let sink = g.W.Sink in
    record {
      holds : Grows sink.holds l.fn.sink l.sink (take l.at l.piece);
      within : l.at ≤ length l.piece;
      tally_is : l.tally ≡ min (l.fn.tally + l.at) (2 ^ 64 - 1);
      calls : sink.count l.sink ≤ sink.count l.fn.sink + l.at;
      stays : sink.failed l.fn.sink ≡ true → sink.failed l.sink ≡ true;
      works : 0 < l.at → sink.failed l.sink ≡ false;
      untouched : l.at ≡ 0 → (l.sink ≡ l.fn.sink) × (l.tally ≡ l.fn.tally);
    }

abbrev pub decreases-loop-at : goal.decreases-loop-at
decreases-loop-at g l = length l.piece - l.at
