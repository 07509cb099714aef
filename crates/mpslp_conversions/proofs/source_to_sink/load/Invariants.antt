use Rattle.std.{proofs.Common.{◌≡◌, ◌≤◌, ◌+◌, true, length}, specs.Io.KnownBytes.{Consumes}}
use Rattle.mpslp_conversions.specs.declared.source_to_sink.TheConstants.{PIECE}
use Rattle.mpslp_conversions.proofs.source_to_sink.load.Given as goal

abbrev pub invariant-reads : goal.invariant-reads
invariant-reads g l =
    let device = g.R.Source in
    record {
      taken : Consumes (device.left l.fn.source) (device.left l.source) l.bytes.items;
      counted : length l.bytes.items + l.room ≡ l.max_bytes;
      full : length l.buffer ≡ PIECE;
      calls : device.count l.source ≤ device.count l.fn.source + length l.bytes.items;
      stays : device.failed l.fn.source ≡ true → device.failed l.source ≡ true;
    }

abbrev pub decreases-reads : goal.decreases-reads
decreases-reads g l = l.room
