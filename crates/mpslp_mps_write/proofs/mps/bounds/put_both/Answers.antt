use Rattle.mpslp_mps_text.specs.PrintedValues.{printed_lower, printed_upper}
use Rattle.mpslp_mps_text.specs.CanonicalMps.{bound_line}
use Rattle.std.proofs.{Common.{sym}, lemmas.List.{map-append}}
use Rattle.mpslp_io.proofs.OutputLemmas.{prints_then, prints_same}
use Rattle.mpslp_mps_write.proofs.mps.bounds.put_both.Goals as goal

pub returns : goal.returns
returns g c =
    prints_same (sym (map-append (bound_line c.args.column.now) (printed_lower c.args.lower.now)
    (printed_upper c.args.kind c.args.upper.now))) (prints_then c.put_lower.ensures c.put_upper.ensures)
