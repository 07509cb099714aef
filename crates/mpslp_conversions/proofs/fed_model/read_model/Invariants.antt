use Rattle.std.proofs.Common.{◌≡◌, true, length}
use Rattle.mpslp_conversions.{specs.declared.source_to_sink.TheConstants.{PIECE}, proofs.FeedingLemmas.{Feeding}}
use Rattle.mpslp_conversions.proofs.fed_model.read_model.Given as goal

abbrev pub invariant-reads : goal.invariant-reads
invariant-reads g l =
    let device = g.R.Source in
    let reader = g.A.Reader.ModelReader in
    record {
      feeding : Feeding device.left device.count reader.after reader.early_fault l.fn.source l.source l.reader l.fault
          l.room l.max_bytes;
      full : length l.buffer ≡ PIECE;
      stays : device.failed l.fn.source ≡ true → device.failed l.source ≡ true;
    }

abbrev pub decreases-reads : goal.decreases-reads
decreases-reads g l = l.room
